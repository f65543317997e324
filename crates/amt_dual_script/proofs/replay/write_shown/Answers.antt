use Rattle.script_lines.proofs.Writes.{nothing_written}
use Rattle.amt_dual_script.proofs.replay.write_shown.Goals as goal

pub returns-in_default-clause-begun : goal.returns-in_default-clause-begun
returns-in_default-clause-begun g c = λ setup schedule at. nothing_written _ _
