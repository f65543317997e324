use Rattle.std.proofs.Common.{◌≡◌, map}
use Rattle.endpoint_membership.{specs.Memberships.{row_of}, proofs.PairsWalked.{seen_memberships}}
use Rattle.endpoint_membership.proofs.parts.StoredMemberships.show.Given as goal

abbrev pub invariant-loop-at : goal.invariant-loop-at
invariant-loop-at l = l.all ≡ map row_of (seen_memberships l.self l.yielded)
