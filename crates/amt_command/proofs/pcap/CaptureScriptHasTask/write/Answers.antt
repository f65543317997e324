use Rattle.amt_pcap.specs.Texts.{capture_script_text}
use Rattle.script_lines.proofs.Writes.{nothing_written}
use Rattle.amt_command.proofs.pcap.CaptureScriptHasTask.write.Goals as goal

pub returns-in_default-clause-begun : goal.returns-in_default-clause-begun
returns-in_default-clause-begun g c =
    nothing_written (g.O.Sink.written c.args.out.now) (capture_script_text c.args.captured.now.relay c.args.captured.now.capture)
