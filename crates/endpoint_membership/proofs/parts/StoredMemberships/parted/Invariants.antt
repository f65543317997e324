use Rattle.std.proofs.Common.{◌≡◌, not, map, filter}
use Rattle.endpoint_membership.specs.{Membership.{endpoint_group_of}, Stored.{is_known}}
use Rattle.endpoint_membership.proofs.parts.StoredMemberships.parted.Given as goal

abbrev pub invariant-loop-membership : goal.invariant-loop-membership
invariant-loop-membership l = record {
  added : l.added.items ≡ filter (λ membership. not (is_known l.self membership)) l.yielded;
  pairs : l.pairs.items ≡ map endpoint_group_of l.added.items;
  kept : l.kept.items ≡ filter (is_known l.self) l.yielded;
}
