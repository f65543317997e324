-- Each turn so far was whole.
use Rattle.std.proofs.Common.{false, length, None}
use Rattle.amt_ports.specs.Devices.{feed_at, link_at, words_at}
use Rattle.relay_serving.{specs.{Controls.{controls_at}, Devices.{devices_seen}, Stages.{progress_in}, Traces.{world}}, proofs.Running.{IsRunning}}
use Rattle.relay_serving.proofs.server.Server.run.Given as goal

abbrev pub invariant-loop-done : goal.invariant-loop-done
invariant-loop-done g l = record {
  running : IsRunning l.fn.plan.rotate_ms l.fn.plan.workers (progress_in l.renewal)
      (world l.initial.self (devices_seen (g.C.Clock.given l.initial.clock) (words_at g.W.Words l.initial.words) (link_at g.L.Link l.initial.link) (feed_at g.F.Feed l.initial.feed) None 0)
      (g.L.Link.longest_wait l.initial.link) (g.F.Feed.longest_wait l.initial.feed) (length l.initial.buf))
      (world l.self (devices_seen (g.C.Clock.given l.clock) (words_at g.W.Words l.words) (link_at g.L.Link l.link) (feed_at g.F.Feed l.feed) None 0)
      (g.L.Link.longest_wait l.link) (g.F.Feed.longest_wait l.feed) (length l.buf)) (controls_at g.K.Link g.N.Copies l.initial.control) (controls_at g.K.Link g.N.Copies l.control) l.done false;
}
