-- Workers over some replicators were started, and the others are to come.
use Rattle.std.proofs.Common.{◌≡◌, ◌+◌, vec_capacity, vec_len}
use Rattle.replication_workers.{specs.{KeptSlots.{AreStarted}, Slots.{from_the_end}, Starting.{HaveStarted}}, proofs.Along.{Along}}
use Rattle.replication_workers.proofs.dispatcher.filling.start_each.Given as goal

abbrev pub invariant-loop-one : goal.invariant-loop-one
invariant-loop-one g l = record {
  along : Along (AreStarted g.P.Spawner.task_of) (from_the_end l.initial.ready.items) (from_the_end l.ready.items) l.kept.items;
  counted : HaveStarted (vec_len l.kept) (g.P.Spawner.starts l.initial.spawner) (g.P.Spawner.starts l.spawner);
  quiet : g.P.Spawner.faults l.spawner ≡ g.P.Spawner.faults l.initial.spawner;
  number : vec_len l.ready + vec_len l.kept ≡ vec_len l.initial.ready;
  room : vec_capacity l.kept ≡ vec_capacity l.initial.kept;
}

abbrev pub decreases-loop-one : goal.decreases-loop-one
decreases-loop-one g l = vec_len l.ready
