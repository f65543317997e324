use Rattle.std.proofs.lemmas.Result.{IfOk-weaker}
use Rattle.amt_dual_script.proofs.Running.{runs}
use Rattle.amt_dual_script.proofs.reading.read_dual_script.Goals as goal

pub returns-clause-runs : goal.returns-clause-runs
returns-clause-runs c = IfOk-weaker c.read_script.result _ _ (λ script h. runs script c.args.bytes.now h) c.read_script.ensures.found
