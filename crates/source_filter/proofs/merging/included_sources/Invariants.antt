use Rattle.std.proofs.Common.{◌≡◌, take}
use Rattle.source_filter.specs.Merging.{include_lists, all_sources}
use Rattle.source_filter.proofs.merging.included_sources.Given as goal

abbrev pub invariant-loop-filter : goal.invariant-loop-filter
invariant-loop-filter l = l.included.items ≡ all_sources (include_lists (take l.filter-index l.filters))
