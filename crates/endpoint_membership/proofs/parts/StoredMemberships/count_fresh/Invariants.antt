use Rattle.std.proofs.Common.{◌≤◌, length}
use Rattle.endpoint_membership.{specs.Stored.{is_counted}, proofs.PairsWalked.{IsCounted, seen_memberships}}
use Rattle.endpoint_membership.proofs.parts.StoredMemberships.count_fresh.Given as goal

abbrev pub invariant-loop-at : goal.invariant-loop-at
invariant-loop-at l = record {
  counted : IsCounted (is_counted l.lifetime_ms l.moment l.besides) (seen_memberships l.self l.yielded) l.count l.last;
  bounded : l.count ≤ length l.yielded;
}
