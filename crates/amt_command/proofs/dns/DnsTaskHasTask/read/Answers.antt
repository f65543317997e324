use Rattle.std.proofs.Common.{codes}
use Rattle.amt_command.{specs.Dns.{source}, proofs.Lookups.{fault_told}}
use Rattle.amt_command.proofs.dns.DnsTaskHasTask.read.Goals as goal

pub returns-in_default-clause-fault : goal.returns-in_default-clause-fault
returns-in_default-clause-fault c =
    fault_told c.args.self.now.source c.args.bytes.now (codes "source") c.prefixed_fault.result c.prefixed_fault.ensures
    (source (λ ip names. c.in_default.not-Some ip (c.parse_ip.ensures.only ip (rw (c.as_bytes.ensures.value, c.as_str.ensures) names))))
