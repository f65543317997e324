use Rattle.std.proofs.Common.{take}
use Rattle.amt_upstream.specs.Counting.{HasRaised}
use Rattle.amt_upstream.proofs.tally.Tally.add_up.Given as goal

abbrev pub invariant-loop-index : goal.invariant-loop-index
invariant-loop-index l = HasRaised (take l.index l.keys) l.initial.self.numbers l.self.numbers
