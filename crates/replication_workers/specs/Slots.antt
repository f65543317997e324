-- What is read of a slot.
use Rattle.std.specs.Prelude.{◌≡◌, List, length, map, reverse}
use Rattle.crossbeam_channel.specs.Claims.{view}
use Rattle.amt_ports.specs.declared.out_link.OutLink.{Ghosts}
use Rattle.replication_workers.specs.{Queue.{jobs_of}, Workers.{HasHandled}, declared.{job.Job.{Job}, replicator.Replicator.{Replicator}, slot.{Left.{Left}, ReadySlot.{ReadySlot}, Slot.{Slot}}, worker.Worker.{Worker}}}

module _ {O : Type 0} {g : Ghosts O} where
  -- what its worker had when it was started
  abbrev pub replicator_of : Worker O g → Replicator O g
  replicator_of worker = worker.replicator

  -- a worker gave this back: it handled exactly these jobs
  pub record LeftAfter (replicator : Replicator O g) (jobs : List Job) (left : Left O) : Type 0 where
    pub counted : left.jobs ≡ length jobs
    pub has_handled : HasHandled replicator jobs left.out left.view left.sent left.unsent

  -- the worker that can be started
  abbrev pub ready_worker : ReadySlot O g → Worker O g
  ready_worker ready = ready.worker

  -- the replicators of slots that are taken from the end of this list
  abbrev pub from_the_end : List (ReadySlot O g) → List (Replicator O g)
  from_the_end ready = reverse (map (λ one. replicator_of (ready_worker one)) ready)

  module _ {T : Type 0} where
    -- the worker that was started
    abbrev pub worker_of : Slot O T g → Worker O g
    worker_of slot = slot.worker.value

    -- the jobs that were put in its queue, in order
    abbrev pub jobs_put : Slot O T g → List Job
    jobs_put slot = jobs_of (view slot.pass).put

    -- what the spawner gave for the start
    abbrev pub started_of : Slot O T g → T
    started_of slot = slot.started
