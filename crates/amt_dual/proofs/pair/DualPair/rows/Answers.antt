use Rattle.{std.proofs.lemmas.Result.{IfOk-weaker}, amt_dual.proofs.DualAgrees.{rows-agree}}
use Rattle.amt_dual.proofs.pair.DualPair.rows.Goals as goal

pub returns-clause-agree : goal.returns-clause-agree
returns-clause-agree c = λ setup schedule at.
    IfOk-weaker _ _ _ (λ rows are. rows-agree c.args.self.now setup schedule rows at are) c.rows.ensures.stands
