use Rattle.std.proofs.Common.{arith}
use Rattle.replication_workers.proofs.{Sending.{one_failed, one_sent}, replicator.sending.send_all.Goals.{in-Err, in-Ok}}
use Rattle.replication_workers.proofs.replicator.sending.send_all.Goals as goal

pub loop-to-preserved : goal.loop-to-preserved
loop-to-preserved g c =
    let targets = c.args.targets.now in
    let place = c.loop-to.to-index in
    let tried = c.loop-to.invariant.0 in
    let all = c.loop-to.invariant.1 in
    elim c.match-send.branch [
      | in-Ok w ↦
          let counts = w.counts-is in
          let next = one_sent _ _ _ _ _ _ c.args.message.now targets place _ _ c.to-item.result c.peer.result c.send.result _ w.in-Ok.is c.loop-to-test.true c.to-item.is c.peer.ensures.value tried c.send.ensures.tried c.send.ensures.tells c.send.ensures.cause in
          (rw counts next, rw counts (omega (arith, all)))
      | in-Err w ↦
          let counts = w.counts-is in
          let next = one_failed _ _ _ _ _ _ c.args.message.now targets place _ _ c.to-item.result c.peer.result c.send.result _ w.in-Err.is c.loop-to-test.true c.to-item.is c.peer.ensures.value tried c.send.ensures.tried c.send.ensures.cause in
          (rw counts next, rw counts (omega (arith, all)))
    ]
