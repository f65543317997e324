-- The outs so far, and the replicators to come.
use Rattle.std.proofs.Common.{◌≡◌, ◌≤◌, ◌+◌, ◌++◌, map, reverse, vec_capacity, vec_len}
use Rattle.replication_workers.specs.Replicators.{out_of}
use Rattle.relay_serving.proofs.server.starting.unmake.Given as goal

abbrev pub invariant-loop-replicator : goal.invariant-loop-replicator
invariant-loop-replicator g l =
    (l.outs.items ++ map out_of (reverse l.made.items) ≡ l.initial.outs.items ++ map out_of (reverse l.initial.made.items))
    × (vec_len l.outs + vec_len l.made ≤ vec_capacity l.outs)

abbrev pub decreases-loop-replicator : goal.decreases-loop-replicator
decreases-loop-replicator g l = vec_len l.made
