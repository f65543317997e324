use Rattle.std.proofs.Common.{◌≡◌, All, flat_map, take}
use Rattle.amt_pcap.specs.Texts.{HasDumpLine, payload_line, tunnel_payloads_in}
use Rattle.amt_pcap.proofs.lines.capture_lines.Given as goal

abbrev pub invariant-loop-item : goal.invariant-loop-item
invariant-loop-item l = record {
  text : l.text ≡ flat_map payload_line (flat_map (λ item. tunnel_payloads_in item.packet) (take l.item-index l.capture.items));
  said : All HasDumpLine (flat_map (λ item. tunnel_payloads_in item.packet) (take l.item-index l.capture.items));
}
