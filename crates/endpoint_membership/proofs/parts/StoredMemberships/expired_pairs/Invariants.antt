use Rattle.std.{proofs.Common.{◌≡◌, true, map}, specs.{List.{AllByRecursion}, Map.Iter.{deref}}}
use Rattle.endpoint_membership.proofs.ExpiredPairs.{is_late, pairs_of}
use Rattle.endpoint_membership.proofs.parts.StoredMemberships.expired_pairs.Given as goal

abbrev pub invariant-loop-renewal : goal.invariant-loop-renewal
invariant-loop-renewal l = record {
  pairs : l.pairs.items ≡ pairs_of (map deref l.yielded);
  late : AllByRecursion (λ renewal. is_late l.lifetime_ms l.moment renewal ≡ true) (map deref l.yielded);
}
