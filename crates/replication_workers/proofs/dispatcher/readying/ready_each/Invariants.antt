-- The slots that aren't ready yet, and those that are.
use Rattle.std.proofs.Common.{◌≡◌, ◌+◌, ◌++◌, vec_capacity, vec_len}
use Rattle.replication_workers.specs.Slots.{from_the_end}
use Rattle.replication_workers.proofs.dispatcher.readying.ready_each.Given as goal

abbrev pub invariant-loop-replicator : goal.invariant-loop-replicator
invariant-loop-replicator g l =
    (l.slots.items ++ from_the_end l.ready.items ≡ l.initial.slots.items)
    × (vec_len l.slots + vec_len l.ready ≡ vec_len l.initial.slots)
    × (vec_capacity l.slots ≡ vec_capacity l.initial.slots)
    × (vec_capacity l.ready ≡ vec_capacity l.initial.ready)

abbrev pub decreases-loop-replicator : goal.decreases-loop-replicator
decreases-loop-replicator g l = vec_len l.slots
