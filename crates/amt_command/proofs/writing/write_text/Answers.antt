use Rattle.script_lines.proofs.Writes.{prefix_written}
use Rattle.amt_command.proofs.writing.write_text.Goals as goal

pub returns-in-Err-clause-begun : goal.returns-in-Err-clause-begun
returns-in-Err-clause-begun g c =
    let prefix = c.in-Err.ensures.prefix in
    prefix_written (g.O.Sink.written c.args.out.now) (g.O.Sink.written c.write_all_own.new.sink) c.args.text.now prefix.0 prefix.2
