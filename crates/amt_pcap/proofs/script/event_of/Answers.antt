use Rattle.std.proofs.Common.{sym}
use Rattle.amt_pcap.proofs.DumpLines.{payload_short}
use Rattle.amt_pcap.proofs.script.event_of.Goals as goal

pub returns-then-is_to-clause-short : goal.returns-then-is_to-clause-short
returns-then-is_to-clause-short c =
    payload_short c.args.packet.now (record { ends = c.in-Some.ends; payload = c.in-Some.payload.now }) (sym c.in-Some.ensures) c.requires
