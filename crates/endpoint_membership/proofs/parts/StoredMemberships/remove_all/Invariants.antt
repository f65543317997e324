use Rattle.std.proofs.Common.{◌≡◌, None, take, if◌then◌else◌}
use Rattle.amt_values.specs.Ascending.{IsAscending, has}
use Rattle.endpoint_membership.specs.{EndpointGroup.{EndpointGroup, endpoint_group_order}, Membership.{membership_order}, Memberships.{membership_in}}
use Rattle.endpoint_membership.proofs.parts.StoredMemberships.remove_all.Given as goal

abbrev pub invariant-loop-at : goal.invariant-loop-at
invariant-loop-at l = record {
  ascends : IsAscending membership_order l.self;
  each : (at : EndpointGroup) → membership_in l.self at ≡ (if has endpoint_group_order (take l.at-index l.pairs) at then None else membership_in l.initial.self at);
}
