use Rattle.std.proofs.Common.{take}
use Rattle.amt_upstream.specs.Counting.{HasLowered}
use Rattle.amt_upstream.proofs.tally.Tally.lower.Given as goal

abbrev pub invariant-loop-key : goal.invariant-loop-key
invariant-loop-key l = HasLowered (take l.key-index l.keys) l.initial.self.numbers l.self.numbers
