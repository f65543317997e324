use Rattle.std.proofs.lemmas.Result.{IfOk-weaker}
use Rattle.source_filter.proofs.MergedFilters.{admits-merged}
use Rattle.source_filter.proofs.merging.merge.Goals as goal

pub returns-clause-admits : goal.returns-clause-admits
returns-clause-admits c = IfOk-weaker _ _ _ (admits-merged c.args.filters.now) c.merged_filter.ensures
