use Rattle.std.proofs.Common.{take}
use Rattle.source_filter.proofs.SourceSets.{IsHeld, put_in}
use Rattle.source_filter.proofs.mutable.insert_all.Given as goal

abbrev pub invariant-loop-source : goal.invariant-loop-source
invariant-loop-source l = IsHeld put_in l.initial.sources.keys (take l.source-index l.listed) l.sources.keys
