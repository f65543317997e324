use Rattle.std.proofs.Common.{ap}
use Rattle.crossbeam_channel.specs.Claims.{view}
use Rattle.replication_workers.{specs.declared.queue.End.{End}, proofs.Queues.{job_was_put, may_put_job, still_putting}}
use Rattle.replication_workers.proofs.queue.putting.put_job.Goals as goal

pub put-requires-clause-may : goal.put-requires-clause-may
put-requires-clause-may g c = may_put_job (view c.args.pass.now) c.args.job c.requires.putting c.requires.few c.requires.publisher

pub returns-clause-putting : goal.returns-clause-putting
returns-clause-putting g c = still_putting (view c.args.pass.now) (view c.put.new.pass) c.args.job c.requires.putting c.put.ensures.put

pub returns-clause-put : goal.returns-clause-put
returns-clause-put g c = job_was_put (view c.args.pass.now) (view c.put.new.pass) c.args.job c.put.ensures.put

pub returns-clause-home : goal.returns-clause-home
returns-clause-home g c = ap (λ (end : End). end.home) c.put.ensures.put
