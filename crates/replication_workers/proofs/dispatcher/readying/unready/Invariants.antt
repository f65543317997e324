-- The slots so far, and those to come.
use Rattle.std.proofs.Common.{◌≡◌, ◌≤◌, ◌+◌, ◌++◌, vec_capacity, vec_len}
use Rattle.replication_workers.specs.Slots.{from_the_end}
use Rattle.replication_workers.proofs.dispatcher.readying.unready.Given as goal

abbrev pub invariant-loop-one : goal.invariant-loop-one
invariant-loop-one g l =
    (l.slots.items ++ from_the_end l.ready.items ≡ l.initial.slots.items ++ from_the_end l.initial.ready.items)
    × (vec_len l.slots + vec_len l.ready ≤ vec_capacity l.slots)
    × (vec_capacity l.slots ≡ vec_capacity l.initial.slots)

abbrev pub decreases-loop-one : goal.decreases-loop-one
decreases-loop-one g l = vec_len l.ready
