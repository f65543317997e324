-- Each asking so far found a line.
use Rattle.std.proofs.Common.{length}
use Rattle.amt_ports.{specs.Devices.{link_at, out_at}, proofs.SoFar.{SoFar}}
use Rattle.gateway_serving.specs.{Answering.{waiting_in}, Servers.{family_in}, Traces.{World, at_control, at_work, by_control, with_control}}
use Rattle.gateway_serving.proofs.server.Server.hear_control.Given as goal

abbrev pub invariant-loop : goal.invariant-loop
invariant-loop g l = record {
  read : (around : World) → SoFar (by_control (family_in l.initial.self))
      (with_control (record around { room = length l.initial.buf }) (at_control (at_work l.initial.self (link_at g.L.Link l.initial.link) (g.L.Link.longest_wait l.initial.link) (out_at g.O.OutLink l.initial.out))
      (link_at g.K.Link l.initial.control) (g.K.Link.longest_wait l.initial.control) (waiting_in l.initial.askers)))
      (with_control (record around { room = length l.buf }) (at_control (at_work l.self (link_at g.L.Link l.link) (g.L.Link.longest_wait l.link) (out_at g.O.OutLink l.out))
      (link_at g.K.Link l.control) (g.K.Link.longest_wait l.control) (waiting_in l.askers))) l.counter;
}
