use Rattle.std.proofs.Common.{take}
use Rattle.amt_upstream.specs.Counting.{HasSwept}
use Rattle.amt_upstream.proofs.tally.Tally.settle.Given as goal

abbrev pub invariant-loop-key : goal.invariant-loop-key
invariant-loop-key l = HasSwept (take l.key-index l.removed) l.initial.self.numbers l.self.numbers
