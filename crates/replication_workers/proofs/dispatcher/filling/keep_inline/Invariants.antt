-- Slots of some replicators were added, and the others are to come.
use Rattle.std.{proofs.Common.{◌≤◌, ◌+◌, vec_capacity, vec_len}, specs.Vec.Iter.{into_iter_items, into_iter_len}}
use Rattle.replication_workers.{specs.KeptSlots.{HasKept}, proofs.Along.{Along}}
use Rattle.replication_workers.proofs.dispatcher.filling.keep_inline.Given as goal

abbrev pub invariant-loop-replicator : goal.invariant-loop-replicator
invariant-loop-replicator g l =
    Along (λ done slots. HasKept done l.initial.kept.items slots) l.fn.slots.items (into_iter_items l.rest) l.kept.items
    × (vec_len l.kept + into_iter_len l.rest ≤ vec_capacity l.kept)

abbrev pub decreases-loop-replicator : goal.decreases-loop-replicator
decreases-loop-replicator g l = into_iter_len l.rest
