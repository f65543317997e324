use Rattle.std.proofs.Common.{◌≡◌, length, filter}
use Rattle.endpoint_membership.specs.Stored.{is_of_another}
use Rattle.endpoint_membership.proofs.parts.StoredMemberships.drop_endpoint.Given as goal

abbrev pub invariant-loop-at : goal.invariant-loop-at
invariant-loop-at l = filter (is_of_another l.endpoint) l.self ≡ filter (is_of_another l.endpoint) l.initial.self

abbrev pub decreases-loop-at : goal.decreases-loop-at
decreases-loop-at l = length l.self
