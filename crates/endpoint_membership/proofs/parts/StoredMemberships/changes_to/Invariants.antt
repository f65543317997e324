use Rattle.std.{proofs.Common.{◌≡◌, map}, specs.List.{filter}}
use Rattle.endpoint_membership.specs.FiltersAfter.{change_at, is_changed}
use Rattle.endpoint_membership.proofs.parts.StoredMemberships.changes_to.Given as goal

abbrev pub invariant-loop-member : goal.invariant-loop-member
invariant-loop-member l = l.changes ≡ map (change_at l.self) (filter (is_changed l.self) l.yielded)
