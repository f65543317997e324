use Rattle.script_lines.proofs.Writes.{nothing_written}
use Rattle.gateway_script.proofs.replay.run_gateway_script.Goals as goal

pub returns-in_default-clause-begun : goal.returns-in_default-clause-begun
returns-in_default-clause-begun g c = nothing_written _ _

pub run_script-requires : goal.run_script-requires
run_script-requires g c = record {
  start = record { settings = c.args.script.now.settings; nonce = c.args.script.now.nonce };
  stands = c.in-Ok.ensures.stands;
  may = rw c.as_slice.ensures c.requires.events;
}

pub returns-clause-done : goal.returns-clause-done
returns-clause-done g c =
    rw (← c.as_slice.ensures)
    (c.run_script.ensures.done (record { settings = c.args.script.now.settings; nonce = c.args.script.now.nonce }) c.in-Ok.ensures.stands)

pub returns-clause-begun : goal.returns-clause-begun
returns-clause-begun g c =
    rw (← c.as_slice.ensures)
    (c.run_script.ensures.begun (record { settings = c.args.script.now.settings; nonce = c.args.script.now.nonce }) c.in-Ok.ensures.stands)
