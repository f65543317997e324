use Rattle.amt_command.specs.Serving.{answered}
use Rattle.amt_command.proofs.top.run_command.Goals as goal

pub returns-in-Relay-clause-serves : goal.returns-in-Relay-clause-serves
returns-in-Relay-clause-serves g c =
    let told = c.serve_relay_file.ensures.answered in
    rw (c.in-Relay.is, ← c.as_str.ensures) (answered told.0 told.1 told.2)

pub returns-in-Gateway-clause-serves : goal.returns-in-Gateway-clause-serves
returns-in-Gateway-clause-serves g c =
    let told = c.serve_gateway_file.ensures.answered in
    rw (c.in-Gateway.is, ← c.as_str-in-Gateway.ensures) (answered told.0 told.1 told.2)
