use Rattle.std.specs.List.Sorted.{IsStrictlySortedBy}
use Rattle.amt_upstream.proofs.looking.sources_of.Goals as goal

pub returns-in-None-clause-ascending : goal.returns-in-None-clause-ascending
unfolding IsStrictlySortedBy
returns-in-None-clause-ascending c = tt
