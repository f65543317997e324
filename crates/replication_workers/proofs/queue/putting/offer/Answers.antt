use Rattle.std.proofs.Common.{sym, subst}
use Rattle.crossbeam_channel.specs.Claims.{view}
use Rattle.replication_workers.{specs.{Queue.{MayPut}, declared.queue.{End.{End}, Item.{Item}}}, proofs.Steps.{puts}}
use Rattle.replication_workers.proofs.queue.putting.offer.Goals as goal

pub try_send_as-requires-clause-rule : goal.try_send_as-requires-clause-rule
try_send_as-requires-clause-rule g c =
    let same = c.loop.invariant in
    let may : MayPut (view c.loop.pass) c.loop.item = subst (λ (pair : End × Item). MayPut pair.0 pair.1) (λ i. (sym same.2 i, sym same.3 i)) c.requires.may in
    (puts _ _ (view c.loop.pass) c.loop.item may, λ items views holds at. tt)
