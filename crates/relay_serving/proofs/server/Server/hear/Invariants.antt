-- Each asking so far found a datagram.
use Rattle.std.proofs.Common.{length}
use Rattle.amt_ports.specs.Devices.{link_at}
use Rattle.relay_serving.proofs.Traces.{HeardSoFar}
use Rattle.relay_serving.proofs.server.Server.hear.Given as goal

abbrev pub invariant-loop : goal.invariant-loop
invariant-loop g l = record {
  heard : HeardSoFar l.initial.self l.self (link_at g.L.Link l.initial.link) (link_at g.L.Link l.link) (g.L.Link.longest_wait l.initial.link) (g.L.Link.longest_wait l.link) (length l.initial.buf) (length l.buf) l.counter;
}
