use Rattle.gateway_machine.proofs.Authorized.{authorized}
use Rattle.gateway_machine.proofs.laws.updates_answer_queries.Goals as goal

pub returns : goal.returns
returns c = authorized
