-- What was tried so far is the answers so far, and nothing else was counted.
use Rattle.std.proofs.Common.{◌≡◌, ◌+◌, map, take}
use Rattle.amt_ports.specs.Devices.{link_seen}
use Rattle.replication_workers.specs.Replication.{to_peer}
use Rattle.relay_serving.specs.Counting.{CountsAlike, HasAnswered}
use Rattle.relay_serving.proofs.server.hearing.send_answers.Given as goal

abbrev pub invariant-loop-send : goal.invariant-loop-send
invariant-loop-send g l =
    CountsAlike l.initial.counts l.counts
    × HasAnswered
    (link_seen (g.L.Link.coming l.initial.link) (g.L.Link.tried l.initial.link) (g.L.Link.receive_faults l.initial.link) (g.L.Link.send_faults l.initial.link))
    (link_seen (g.L.Link.coming l.link) (g.L.Link.tried l.link) (g.L.Link.receive_faults l.link) (g.L.Link.send_faults l.link))
    l.initial.counts l.counts (map to_peer (take l.send-index l.sends))
    × (l.counts.sent + l.counts.unsent ≡ l.initial.counts.sent + l.initial.counts.unsent + l.send-index)
    × (g.L.Link.coming l.link ≡ g.L.Link.coming l.initial.link)
    × (g.L.Link.receive_faults l.link ≡ g.L.Link.receive_faults l.initial.link)
    × (g.L.Link.longest_wait l.link ≡ g.L.Link.longest_wait l.initial.link)
