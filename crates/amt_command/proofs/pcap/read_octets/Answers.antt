use Rattle.amt_command.proofs.Captures.{capture_told}
use Rattle.amt_command.proofs.pcap.read_octets.Goals as goal

pub returns-in-Err-clause-fault : goal.returns-in-Err-clause-fault
returns-in-Err-clause-fault c =
    capture_told c.args.bytes.now c.in-Err.fault c.capture_fault.result c.capture_fault.ensures c.in-Err.ensures.refused
