use Rattle.std.proofs.Common.{◌≡◌, ◌++◌}
use Rattle.amt_upstream.proofs.records.append.Given as goal

abbrev pub invariant-loop-one : goal.invariant-loop-one
invariant-loop-one l = l.records ≡ l.initial.records ++ l.yielded
