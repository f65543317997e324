use Rattle.std.{proofs.Common.{◌≡◌}, specs.{Option.{option_or}, Vec.Iter.{into_iter_items}}}
use Rattle.amt_values.specs.Ascending.{IsAscending}
use Rattle.endpoint_membership.specs.{EndpointGroup.{EndpointGroup}, FiltersAfter.{left_at, left_of}, Membership.{membership_order}, Memberships.{membership_in}}
use Rattle.endpoint_membership.proofs.filters_after.set_each.Given as goal

-- what is left to set makes of what is set what all of it made of what was set first
abbrev pub invariant-loop-membership : goal.invariant-loop-membership
invariant-loop-membership l = record {
  ascend : IsAscending membership_order (into_iter_items l.membership-iterator);
  left : (at : EndpointGroup) → option_or (left_of (membership_in (into_iter_items l.membership-iterator) at)) (left_at l.filters at)
      ≡ option_or (left_of (membership_in l.fn.memberships.items at)) (left_at l.initial.filters at);
}
