-- Each asking so far found a packet.
use Rattle.std.proofs.Common.{length}
use Rattle.amt_ports.specs.Devices.{feed_at}
use Rattle.relay_serving.proofs.Traces.{FedSoFar}
use Rattle.relay_serving.proofs.server.Server.feed.Given as goal

abbrev pub invariant-loop : goal.invariant-loop
invariant-loop g l = record {
  fed : FedSoFar l.initial.self l.self (feed_at g.F.Feed l.initial.feed) (feed_at g.F.Feed l.feed) (g.F.Feed.longest_wait l.initial.feed) (g.F.Feed.longest_wait l.feed) (length l.initial.buf) (length l.buf) l.counter;
}
