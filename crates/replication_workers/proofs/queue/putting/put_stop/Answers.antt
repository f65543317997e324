use Rattle.crossbeam_channel.specs.Claims.{view}
use Rattle.replication_workers.proofs.Queues.{may_put_stop, stop_was_put}
use Rattle.replication_workers.proofs.queue.putting.put_stop.Goals as goal

pub put-requires-clause-may : goal.put-requires-clause-may
put-requires-clause-may g c = may_put_stop (view c.args.pass.now) c.requires.putting

pub returns-clause-stopped : goal.returns-clause-stopped
returns-clause-stopped g c = (stop_was_put (view c.args.pass.now) (view c.put.new.pass) c.requires.putting c.put.ensures.put).0

pub returns-clause-jobs : goal.returns-clause-jobs
returns-clause-jobs g c = (stop_was_put (view c.args.pass.now) (view c.put.new.pass) c.requires.putting c.put.ensures.put).1
