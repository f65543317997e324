use Rattle.std.proofs.Common.{length}
use Rattle.amt_dump.proofs.Noting.{IsNoting}
use Rattle.amt_dump.proofs.numbers.numbers_that_say.Given as goal

abbrev pub invariant-loop-left : goal.invariant-loop-left
invariant-loop-left l = IsNoting l.bytes l.left l.numbers l.number

abbrev pub decreases-loop-left : goal.decreases-loop-left
decreases-loop-left l = length l.left
