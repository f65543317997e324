use Rattle.std.proofs.lemmas.Result.{IfOk-weaker}
use Rattle.amt_dump.proofs.Lawful.{spelled_sized}
use Rattle.amt_dump.proofs.datagrams.read_datagrams.Goals as goal

pub returns-clause-sized : goal.returns-clause-sized
returns-clause-sized c = IfOk-weaker c.read_script.result _ _ (λ datagrams h. spelled_sized datagrams c.args.bytes.now h) c.read_script.ensures.found
