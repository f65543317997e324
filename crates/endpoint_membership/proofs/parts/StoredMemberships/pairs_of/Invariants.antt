use Rattle.std.{proofs.Common.{◌≡◌, true, map}, specs.{List.{AllByRecursion}, Map.Iter.{deref}}}
use Rattle.endpoint_membership.specs.EndpointGroup.{same_endpoint}
use Rattle.endpoint_membership.proofs.parts.StoredMemberships.pairs_of.Given as goal

abbrev pub invariant-loop-at : goal.invariant-loop-at
invariant-loop-at l = record {
  pairs : l.pairs.items ≡ map deref l.yielded;
  of : AllByRecursion (λ at. same_endpoint at.endpoint l.endpoint ≡ true) l.pairs.items;
}
