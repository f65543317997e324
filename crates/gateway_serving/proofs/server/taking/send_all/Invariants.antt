-- What was tried so far is the sends so far, and nothing else was counted.
use Rattle.std.proofs.Common.{◌≡◌, ◌≤◌, ◌+◌, [], map, take}
use Rattle.amt_ports.specs.Devices.{OutSeen, link_at}
use Rattle.gateway_serving.specs.{Sending.{to_peer}, Taking.{HasSent}}
use Rattle.gateway_serving.proofs.server.taking.send_all.Given as goal

abbrev pub invariant-loop-send : goal.invariant-loop-send
invariant-loop-send g l = record {
  sent : (out : OutSeen) → HasSent (link_at g.L.Link l.initial.link) (link_at g.L.Link l.link) out out l.initial.counts l.counts (map to_peer (take l.send-index l.sends)) [];
  others : l.counts ≡ record l.initial.counts { unsent = l.counts.unsent };
  few : l.counts.unsent ≤ l.initial.counts.unsent + l.send-index;
  coming : g.L.Link.coming l.link ≡ g.L.Link.coming l.initial.link;
  faults : g.L.Link.receive_faults l.link ≡ g.L.Link.receive_faults l.initial.link;
  waits : g.L.Link.longest_wait l.link ≡ g.L.Link.longest_wait l.initial.link;
}
