use Rattle.std.proofs.lemmas.Result.{IfOk-weaker}
use Rattle.source_filter.proofs.FilterAfter.{admits-named, admits-others}
use Rattle.source_filter.proofs.filter.Filter.apply.Goals as goal

pub returns-clause-says : goal.returns-clause-says
returns-clause-says c = IfOk-weaker _ _ _ (admits-named c.args.self.now c.args.change.now) c.filter_after.ensures

pub returns-clause-keeps : goal.returns-clause-keeps
returns-clause-keeps c = IfOk-weaker _ _ _ (admits-others c.args.self.now c.args.change.now) c.filter_after.ensures
