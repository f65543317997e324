use Rattle.script_lines.proofs.Writes.{prefix_written}
use Rattle.script_lines.proofs.held.write_held.Goals as goal

pub returns-in-Err-clause-begun : goal.returns-in-Err-clause-begun
returns-in-Err-clause-begun g c =
    let prefix = c.in-Err.ensures.prefix in prefix_written _ _ c.args.held.now prefix.0 (rw c.as_slice.ensures at prefix.2)
