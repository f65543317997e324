use Rattle.amt_dns.specs.Texts.{dns_text}
use Rattle.script_lines.proofs.Writes.{nothing_written}
use Rattle.amt_command.proofs.dns.DnsTaskHasTask.write.Goals as goal

pub returns-in_default-clause-begun : goal.returns-in_default-clause-begun
returns-in_default-clause-begun g c =
    nothing_written (g.O.Sink.written c.args.out.now) (dns_text c.args.lookup.now.source c.args.lookup.now.answer)
