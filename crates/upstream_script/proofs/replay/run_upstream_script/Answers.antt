use Rattle.script_lines.proofs.Writes.{nothing_written}
use Rattle.upstream_script.{specs.Texts.{start_of}, proofs.Runs.{each_may}}
use Rattle.upstream_script.proofs.replay.run_upstream_script.Goals as goal

pub returns-in_default-clause-begun : goal.returns-in_default-clause-begun
returns-in_default-clause-begun g c = nothing_written _ _

pub run_script-requires : goal.run_script-requires
run_script-requires g c =
    let script = c.args.script.now in record {
      start = start_of script;
      stands = c.in-Ok.ensures;
      may = rw c.as_slice.ensures (each_may (start_of script) script.items c.requires.lawful c.requires.sized);
    }

pub returns-clause-done : goal.returns-clause-done
returns-clause-done g c = rw (← c.as_slice.ensures) (c.run_script.ensures.done (start_of c.args.script.now) c.in-Ok.ensures)

pub returns-clause-begun : goal.returns-clause-begun
returns-clause-begun g c = rw (← c.as_slice.ensures) (c.run_script.ensures.begun (start_of c.args.script.now) c.in-Ok.ensures)
