use Rattle.std.{proofs.Common.{◌≡◌, true, is_some, map}, specs.{List.{AllByRecursion}, Option.{option_or}, Vec.Iter.{into_iter_items}}}
use Rattle.amt_values.specs.Ascending.{IsAscending}
use Rattle.endpoint_membership.specs.{EndpointGroup.{EndpointGroup}, Membership.{endpoint_group_of, membership_order}, Memberships.{membership_in}, Parts.{AreRenewalsOf}}
use Rattle.endpoint_membership.proofs.parts.renew.settle.Given as goal

abbrev pub invariant-loop-membership : goal.invariant-loop-membership
invariant-loop-membership l = record {
  ascend : IsAscending membership_order (into_iter_items l.membership-iterator);
  present : AllByRecursion (λ membership. is_some (membership_in l.initial.filters (endpoint_group_of membership)) ≡ true) (into_iter_items l.membership-iterator);
  staged : AreRenewalsOf (into_iter_items l.membership-iterator) l.filters l.renewals;
  new : (at : EndpointGroup) → option_or (membership_in (into_iter_items l.membership-iterator) at) (membership_in l.filters at)
      ≡ option_or (membership_in l.fn.memberships.items at) (membership_in l.initial.filters at);
  pairs : map endpoint_group_of l.filters ≡ map endpoint_group_of l.initial.filters;
}
