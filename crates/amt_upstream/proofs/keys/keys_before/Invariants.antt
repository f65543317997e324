use Rattle.std.proofs.Common.{◌≡◌, take}
use Rattle.amt_upstream.specs.Counting.{keys_before}
use Rattle.amt_upstream.proofs.keys.keys_before.Given as goal

abbrev pub invariant-loop-change : goal.invariant-loop-change
invariant-loop-change l = l.keys.items ≡ keys_before (take l.change-index l.changes)
