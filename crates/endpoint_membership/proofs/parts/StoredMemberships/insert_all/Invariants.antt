use Rattle.std.{proofs.Common.{◌≡◌, None}, specs.{Option.{option_or}, Vec.Iter.{into_iter_items}}}
use Rattle.amt_values.specs.Ascending.{IsAscending}
use Rattle.endpoint_membership.{specs.{EndpointGroup.{EndpointGroup}, Membership.{membership_order}, Memberships.{membership_in}}, proofs.SetAt.{AreAbsent}}
use Rattle.endpoint_membership.proofs.parts.StoredMemberships.insert_all.Given as goal

abbrev pub invariant-loop-membership : goal.invariant-loop-membership
invariant-loop-membership l = record {
  ascends : IsAscending membership_order l.self;
  ascend : IsAscending membership_order (into_iter_items l.membership-iterator);
  absent : AreAbsent l.self (into_iter_items l.membership-iterator);
  each : (at : EndpointGroup) → option_or (membership_in (into_iter_items l.membership-iterator) at) (membership_in l.self at) ≡ option_or (membership_in l.fn.added.items at) (membership_in l.initial.self at);
  others : (at : EndpointGroup) → membership_in l.fn.added.items at ≡ None → (membership_in (into_iter_items l.membership-iterator) at ≡ None) × (membership_in l.self at ≡ membership_in l.initial.self at);
}
