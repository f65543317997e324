use Rattle.std.proofs.Common.{◌≡◌, length, filter}
use Rattle.endpoint_membership.specs.Membership.{is_fresh}
use Rattle.endpoint_membership.proofs.parts.StoredMemberships.purge.Given as goal

abbrev pub invariant-loop-at : goal.invariant-loop-at
invariant-loop-at l = filter (is_fresh l.lifetime_ms l.moment) l.self ≡ filter (is_fresh l.lifetime_ms l.moment) l.initial.self

abbrev pub decreases-loop-at : goal.decreases-loop-at
decreases-loop-at l = length l.self
