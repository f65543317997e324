use denote.{Exit.{no}, Param.{param, Send.{IsSend, arg_send, param_send, sendable}}}
use Rattle.replication_workers.proofs.Crossing.{Replicator-send, Worker-send}
use Rattle.replication_workers.proofs.worker.thread.start_worker.Goals as goal

pub start_promised-requires-send-T : goal.start_promised-requires-send-T
start_promised-requires-send-T g c κs within =
    let out : IsSend (param 1 g.row.O) = search (sendable, c.type_bounds.send-O) in
    param_send 1 _ (arg_send _ no _ (Worker-send (param 1 g.row.O) g.O.OutLink (Replicator-send (param 1 g.row.O) g.O.OutLink out)))
