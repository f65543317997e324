use Rattle.amt_command.proofs.Captures.{no_relay_told, relay_told}
use Rattle.amt_command.proofs.pcap.CaptureScriptHasTask.read.Goals as goal

pub returns-in_default-clause-fault : goal.returns-in_default-clause-fault
returns-in_default-clause-fault c =
    no_relay_told c.args.self.now.relay c.args.bytes.now c.prefixed_fault.result c.prefixed_fault.ensures
    (λ ip names. c.in_default.not-Some ip (c.parse_ip.ensures.only ip (rw (c.as_bytes.ensures.value, c.as_str.ensures) names)))

pub returns-in-Err-clause-fault : goal.returns-in-Err-clause-fault
returns-in-Err-clause-fault c =
    relay_told c.args.self.now.relay c.args.bytes.now c.in-Some.relay c.in-Err.fault
    (rw (← c.as_str.ensures, ← c.as_bytes.ensures.value) c.in-Some.ensures.found) c.in-Err.ensures.fault
