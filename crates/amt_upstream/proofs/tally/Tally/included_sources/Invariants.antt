use Rattle.std.{proofs.Common.{◌≡◌, map}, specs.Map.Iter.{deref_pair}}
use Rattle.amt_upstream.proofs.GroupRange.{included_in}
use Rattle.amt_upstream.proofs.tally.Tally.included_sources.Given as goal

abbrev pub invariant-loop-key : goal.invariant-loop-key
invariant-loop-key l = l.sources.items ≡ included_in l.group (map deref_pair l.yielded)
