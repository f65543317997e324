use Rattle.std.proofs.Common.{◌≡◌}
use Rattle.amt_ports.specs.Devices.{link_at}
use Rattle.control_lines.proofs.Sending.{IsSending}
use Rattle.control_lines.proofs.answer.send_pieces.Given as goal

-- some pieces were sent, and the others are cut from what is left
abbrev pub invariant-loop-left : goal.invariant-loop-left
invariant-loop-left g l = record {
  sending : IsSending l.to l.octets l.rest l.size l.left (link_at g.L.Link l.initial.link) (link_at g.L.Link l.link);
  coming : g.L.Link.coming l.link ≡ g.L.Link.coming l.initial.link;
  faults : g.L.Link.receive_faults l.link ≡ g.L.Link.receive_faults l.initial.link;
  waits : g.L.Link.longest_wait l.link ≡ g.L.Link.longest_wait l.initial.link;
}

abbrev pub decreases-loop-left : goal.decreases-loop-left
decreases-loop-left g l = l.left
