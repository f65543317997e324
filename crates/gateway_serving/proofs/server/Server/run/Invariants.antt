-- Each turn so far was whole, and nobody asked that the run ends.
use Rattle.std.proofs.Common.{false, length}
use Rattle.amt_ports.specs.Devices.{link_at, out_at, words_at}
use Rattle.gateway_serving.{specs.{Answering.{waiting_in}, Traces.{at_work, world}}, proofs.Running.{IsRunning}}
use Rattle.gateway_serving.proofs.server.Server.run.Given as goal

abbrev pub invariant-loop-done : goal.invariant-loop-done
invariant-loop-done g l = record {
  running : IsRunning
      (world (at_work l.initial.self (link_at g.L.Link l.initial.link) (g.L.Link.longest_wait l.initial.link) (out_at g.O.OutLink l.initial.out))
      (g.C.Clock.given l.initial.clock) (words_at g.W.Words l.initial.words) (link_at g.K.Link l.initial.control) (g.K.Link.longest_wait l.initial.control) (length l.initial.buf) (waiting_in l.initial.askers))
      (world (at_work l.self (link_at g.L.Link l.link) (g.L.Link.longest_wait l.link) (out_at g.O.OutLink l.out))
      (g.C.Clock.given l.clock) (words_at g.W.Words l.words) (link_at g.K.Link l.control) (g.K.Link.longest_wait l.control) (length l.buf) (waiting_in l.askers)) l.done false;
}
