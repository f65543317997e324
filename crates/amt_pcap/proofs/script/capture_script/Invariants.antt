use Rattle.std.proofs.Common.{◌≡◌, ◌+◌, ◌++◌, All, drop, take}
use Rattle.amt_pcap.specs.Texts.{IsReadBack, lines_of_items, relay_line}
use Rattle.amt_pcap.proofs.script.capture_script.Given as goal

abbrev pub invariant-loop-index : goal.invariant-loop-index
invariant-loop-index l = record {
  text : l.text ++ lines_of_items l.relay (l.index + 1) (drop l.index l.capture.items)
      ≡ relay_line l.relay ++ lines_of_items l.relay 1 l.capture.items;
  back : All (IsReadBack l.relay) (take l.index l.capture.items);
}
