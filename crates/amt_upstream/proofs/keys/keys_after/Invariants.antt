use Rattle.std.proofs.Common.{◌≡◌, take}
use Rattle.amt_upstream.specs.Counting.{keys_after}
use Rattle.amt_upstream.proofs.keys.keys_after.Given as goal

abbrev pub invariant-loop-change : goal.invariant-loop-change
invariant-loop-change l = l.keys.items ≡ keys_after (take l.change-index l.changes)
