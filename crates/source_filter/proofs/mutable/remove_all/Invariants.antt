use Rattle.std.proofs.Common.{take}
use Rattle.source_filter.proofs.SourceSets.{IsHeld, taken_out}
use Rattle.source_filter.proofs.mutable.remove_all.Given as goal

abbrev pub invariant-loop-source : goal.invariant-loop-source
invariant-loop-source l = IsHeld taken_out l.initial.sources.keys (take l.source-index l.listed) l.sources.keys
