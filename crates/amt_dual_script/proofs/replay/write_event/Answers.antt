use Rattle.script_lines.proofs.Writes.{nothing_written}
use Rattle.amt_dual_script.proofs.replay.write_event.Goals as goal

pub returns-in_default-clause-begun : goal.returns-in_default-clause-begun
returns-in_default-clause-begun g c = λ start before at. nothing_written _ _

pub returns-clause-begun : goal.returns-clause-begun
returns-clause-begun g c = λ start before at. rw (c.in-Ok.ensures.text start before at) at c.write_where_full.ensures.begun
