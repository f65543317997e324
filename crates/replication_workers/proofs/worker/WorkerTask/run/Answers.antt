use Rattle.std.proofs.Common.{sym, subst, refl}
use Rattle.crossbeam_channel.specs.Claims.{view}
use Rattle.replication_workers.{proofs.{Handling.{Going, going_first, going_on, going_past, going_stop, room_for_job, same_publisher}, Steps.{takes}}, specs.{Queue.{HasTaken}, declared.{queue.{End.{End}, Item.{Item}}, worker.WorkerDone.{WorkerDone}}}}
use Rattle.replication_workers.proofs.worker.WorkerTask.run.Goals as goal

pub loop-init : goal.loop-init
loop-init g c = (c.args.self.seated, going_first c.args.self _ c.none-counts.ensures)

pub recv_as-requires-clause-rule : goal.recv_as-requires-clause-rule
recv_as-requires-clause-rule g c = (takes _ (view c.loop.pass) c.loop.invariant.1.takes, λ items views holds at. tt)

pub handle-requires : goal.handle-requires
handle-requires g c =
    let taken = subst (λ (item : Item). HasTaken (view c.loop.pass) item (view c.recv_as.new.pass)) c.in-Ok-Work.field-0-is c.in-Ok-Work.ensures.rule in
    record { publisher = same_publisher _ _ _ taken.of_home.0 c.loop.invariant.1.home; jobs = room_for_job _ _ _ _ _ c.in-Ok-Work.job c.loop.invariant.1 taken }

pub loop-preserved-in-Ok-Work : goal.loop-preserved-in-Ok-Work
loop-preserved-in-Ok-Work g c =
    let taken = subst (λ (item : Item). HasTaken (view c.loop.pass) item (view c.recv_as.new.pass)) c.in-Ok-Work.field-0-is c.in-Ok-Work.ensures.rule in
    let going = c.loop.invariant.1 in
    let done = c.handle.ensures in
    (c.in-Ok-Work.ensures.channel.0, going_on _ _ _ _ _ _ _ _ going taken done.counted done.copied.publisher done.copied.limit (done.handled _ _ going.limit going.has_handled))

pub loop-preserved-in-Ok-Home : goal.loop-preserved-in-Ok-Home
loop-preserved-in-Ok-Home g c =
    let taken = subst (λ (item : Item). HasTaken (view c.loop.pass) item (view c.recv_as.new.pass)) c.in-Ok-Home.field-0-is c.in-Ok-Home.ensures.rule in
    (c.in-Ok-Home.ensures.channel.0, going_past _ _ _ _ _ _ c.loop.invariant.1 taken refl)

pub loop-preserved : goal.loop-preserved
loop-preserved g c = (c.in-Err.ensures.channel.0, subst (λ (known : End). Going c.args.self c.loop.replicator known c.loop.counts) (sym c.in-Err.ensures.rule.0) c.loop.invariant.1)

pub returns-in-Ok-Stop : goal.returns-in-Ok-Stop
returns-in-Ok-Stop g c =
    let taken = subst (λ (item : Item). HasTaken (view c.loop.pass) item (view c.recv_as.new.pass)) c.in-Ok-Stop.field-0-is c.in-Ok-Stop.ensures.rule in
    let parts = c.into_parts-view in
    let counts = c.loop.counts in
    let done : WorkerDone g.row.O.Denot = record { out = parts.result.1; view = parts.result.0; jobs = counts.jobs; sent = counts.sent; unsent = counts.unsent; pass = c.recv_as.new.pass } in
    going_stop _ _ _ counts done c.loop.invariant.1 taken c.in-Ok-Stop.ensures.channel.0 refl parts.ensures.view parts.ensures.out refl refl
