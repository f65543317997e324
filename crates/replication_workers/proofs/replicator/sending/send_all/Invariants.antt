-- What was tried so far is the message to each endpoint so far.
use Rattle.std.proofs.Common.{◌≡◌, ◌+◌, map, take}
use Rattle.replication_workers.specs.Replication.{with_message}
use Rattle.amt_ports.specs.Tried.{HasTried}
use Rattle.replication_workers.proofs.replicator.sending.send_all.Given as goal

abbrev pub invariant-loop-to : goal.invariant-loop-to
invariant-loop-to g l =
    HasTried (g.O.OutLink.tried l.initial.out) (g.O.OutLink.tried l.out) (g.O.OutLink.faults l.initial.out) (g.O.OutLink.faults l.out)
    (map (with_message l.message) (take l.to-index l.targets)) l.counts.sent l.counts.unsent
    × (l.counts.sent + l.counts.unsent ≡ l.to-index)
