use Rattle.std.proofs.Common.{◌≤◌, ◌-◌, length}
use Rattle.amt_pcap.specs.Capture.{AreRecords}
use Rattle.amt_pcap.proofs.reading.read_records.Given as goal

abbrev pub invariant-loop-end : goal.invariant-loop-end
invariant-loop-end l = record {
  records : AreRecords l.format l.bytes l.items l.at;
  within : l.at ≤ length l.bytes;
}

abbrev pub decreases-loop-end : goal.decreases-loop-end
decreases-loop-end l = length l.bytes - l.at
