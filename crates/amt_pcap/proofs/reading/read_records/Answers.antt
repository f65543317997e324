-- A record more.
use Rattle.amt_pcap.specs.Capture.{AreRecords}
use Rattle.amt_pcap.proofs.reading.read_records.Goals as goal

pub loop-end-init : goal.loop-end-init
loop-end-init c = rw c.new-items.ensures (record { records = AreRecords.none; within = c.requires.head.whole })

pub loop-end-preserved : goal.loop-end-preserved
loop-end-preserved c =
    let end = c.in-Some.ensures.some in
    record {
      records = rw (c.in_ok-push.ensures.ok, c.in_ok-read_item.ensures, end.0) (AreRecords.more c.loop-end.items c.loop-end.at c.loop-end.invariant.records (rw (← end.0) end.1));
      within = end.1;
    }
