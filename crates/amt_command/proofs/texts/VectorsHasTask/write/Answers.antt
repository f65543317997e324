use Rattle.script_lines.proofs.Writes.{nothing_written}
use Rattle.amt_command.specs.Command.{vectors_task}
use Rattle.amt_command.proofs.texts.VectorsHasTask.write.Goals as goal

pub returns-in_default-clause-begun : goal.returns-in_default-clause-begun
returns-in_default-clause-begun g c = nothing_written (g.O.Sink.written c.args.out.now) (vectors_task.text c.args.report.now)
