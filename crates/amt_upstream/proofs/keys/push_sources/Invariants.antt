use Rattle.std.proofs.Common.{◌≡◌, ◌++◌, map, take}
use Rattle.amt_upstream.specs.Counting.{source_key}
use Rattle.amt_upstream.proofs.keys.push_sources.Given as goal

abbrev pub invariant-loop-source : goal.invariant-loop-source
invariant-loop-source l = l.keys.items ≡ l.initial.keys.items ++ map (source_key l.mode l.group) (take l.source-index l.sources)
