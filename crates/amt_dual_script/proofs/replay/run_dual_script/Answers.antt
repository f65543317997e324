use Rattle.script_lines.proofs.Writes.{nothing_written}
use Rattle.amt_dual_script.{specs.Setup.{setup_of}, proofs.Steps.{at_start}}
use Rattle.amt_dual_script.proofs.replay.run_dual_script.Goals as goal

pub returns-in_default-clause-begun : goal.returns-in_default-clause-begun
returns-in_default-clause-begun g c = nothing_written _ _

pub run_script-requires : goal.run_script-requires
run_script-requires g c = record {
  start = setup_of c.args.script.now;
  stands = at_start c.in-Ok.pair (setup_of c.args.script.now) c.in-Ok.ensures;
  may = rw c.as_slice.ensures c.requires.items;
}

pub returns-clause-done : goal.returns-clause-done
returns-clause-done g c =
    rw (← c.as_slice.ensures)
    (c.run_script.ensures.done (setup_of c.args.script.now) (at_start c.in-Ok.pair (setup_of c.args.script.now) c.in-Ok.ensures))

pub returns-clause-begun : goal.returns-clause-begun
returns-clause-begun g c =
    rw (← c.as_slice.ensures)
    (c.run_script.ensures.begun (setup_of c.args.script.now) (at_start c.in-Ok.pair (setup_of c.args.script.now) c.in-Ok.ensures))
