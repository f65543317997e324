use Rattle.std.proofs.Common.{drop}
use Rattle.endpoint_membership.specs.Effective.{AreKnown, AreEnough, lent}
use Rattle.endpoint_membership.proofs.effective.effective_records.Given as goal

abbrev pub invariant-loop-place : goal.invariant-loop-place
invariant-loop-place l = AreEnough (lent l.kept.items) (drop l.place l.records) × AreKnown l.known (lent l.kept.items)
