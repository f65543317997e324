use Rattle.amt_pcap.specs.Texts.{capture_lines_text}
use Rattle.script_lines.proofs.Writes.{nothing_written}
use Rattle.amt_command.proofs.pcap.CaptureLinesHasTask.write.Goals as goal

pub returns-in_default-clause-begun : goal.returns-in_default-clause-begun
returns-in_default-clause-begun g c = nothing_written (g.O.Sink.written c.args.out.now) (capture_lines_text c.args.capture.now)
