use Rattle.std.proofs.Common.{◌≡◌, ◌++◌}
use Rattle.source_filter.proofs.mutable.MutableFilter.sources.Given as goal

abbrev pub invariant-loop-source : goal.invariant-loop-source
invariant-loop-source l = l.listed.items ++ l.source-iterator ≡ l.self.sources
