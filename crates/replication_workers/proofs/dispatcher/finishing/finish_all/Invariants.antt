-- Some slots were ended, and the others are to come.
use Rattle.std.{proofs.Common.{◌≡◌, length}, specs.{List.{All}, Vec.Iter.{into_iter_items, into_iter_len}}}
use Rattle.replication_workers.{specs.{Gathering.{HasRoom, HaveEnded}, KeptSlots.{IsRunBy}}, proofs.Along.{Along}}
use Rattle.replication_workers.proofs.dispatcher.finishing.finish_all.Given as goal

abbrev pub invariant-loop-one : goal.invariant-loop-one
invariant-loop-one g l = record {
  along : Along HaveEnded l.fn.kept.items (into_iter_items l.rest) l.gathered;
  room : HasRoom (length (into_iter_items l.rest)) l.gathered;
  run : All (IsRunBy g.P.Spawner.task_of) (into_iter_items l.rest);
  starts : g.P.Spawner.starts l.spawner ≡ g.P.Spawner.starts l.initial.spawner;
  faults : g.P.Spawner.faults l.spawner ≡ g.P.Spawner.faults l.initial.spawner;
}

abbrev pub decreases-loop-one : goal.decreases-loop-one
decreases-loop-one g l = into_iter_len l.rest
