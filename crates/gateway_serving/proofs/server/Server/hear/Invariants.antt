-- Each asking so far found a datagram.
use Rattle.std.proofs.Common.{length}
use Rattle.amt_ports.{specs.Devices.{link_at, out_at}, proofs.SoFar.{SoFar}}
use Rattle.gateway_serving.specs.Traces.{World, at_work, by_link}
use Rattle.gateway_serving.proofs.server.Server.hear.Given as goal

abbrev pub invariant-loop : goal.invariant-loop
invariant-loop g l = record {
  heard : (around : World) → SoFar by_link
      (record around { work = at_work l.initial.self (link_at g.L.Link l.initial.link) (g.L.Link.longest_wait l.initial.link) (out_at g.O.OutLink l.initial.out); room = length l.initial.buf })
      (record around { work = at_work l.self (link_at g.L.Link l.link) (g.L.Link.longest_wait l.link) (out_at g.O.OutLink l.out); room = length l.buf }) l.counter;
}
