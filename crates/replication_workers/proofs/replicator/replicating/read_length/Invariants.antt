-- A reading that was handed back changed nothing but the count of such readings.
use Rattle.std.proofs.Common.{◌≡◌}
use Rattle.published_table.specs.Views.{IsSameView, seen}
use Rattle.replication_workers.proofs.replicator.replicating.read_length.Given as goal

abbrev pub invariant-loop : goal.invariant-loop
invariant-loop g l =
    (goal.iterator-loop g).can_next l.iterator' × (goal.iterator-loop g).is_finite l.iterator'
    × IsSameView l.initial.view l.view × (seen l.view ≡ seen l.initial.view)
