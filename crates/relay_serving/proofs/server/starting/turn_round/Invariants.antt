-- The replicators so far, and those to come.
use Rattle.std.proofs.Common.{◌≡◌, ◌≤◌, ◌+◌, ◌++◌, reverse, vec_capacity, vec_len}
use Rattle.relay_serving.proofs.server.starting.turn_round.Given as goal

abbrev pub invariant-loop-replicator : goal.invariant-loop-replicator
invariant-loop-replicator g l =
    (l.to.items ++ reverse l.from.items ≡ l.initial.to.items ++ reverse l.initial.from.items)
    × (vec_len l.to + vec_len l.from ≤ vec_capacity l.to)
    × (vec_capacity l.to ≡ vec_capacity l.initial.to)
    × (vec_capacity l.from ≡ vec_capacity l.initial.from)

abbrev pub decreases-loop-replicator : goal.decreases-loop-replicator
decreases-loop-replicator g l = vec_len l.from
