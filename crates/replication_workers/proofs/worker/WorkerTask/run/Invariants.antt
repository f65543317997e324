-- What the worker took so far was handled.
use Rattle.crossbeam_channel.specs.{Claims.{IsSeatAt, view}, Ends.{receives_on}}
use Rattle.replication_workers.proofs.Handling.{Going}
use Rattle.replication_workers.proofs.worker.WorkerTask.run.Given as goal

abbrev pub invariant-loop : goal.invariant-loop
invariant-loop g l =
    IsSeatAt (receives_on l.fn.self.inbox) l.pass × Going l.fn.self l.replicator (view l.pass) l.counts
