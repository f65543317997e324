use Rattle.std.proofs.Common.{refl}
use Rattle.gateway_serving.proofs.Answering.{answered_fine, answered_not}
use Rattle.gateway_serving.proofs.server.Server.answer.Goals as goal

pub returns-in-Ok : goal.returns-in-Ok
returns-in-Ok g c = record {
  answers = answered_fine _ _ _ _ _ _ refl c.in-Ok.ensures.replied;
  unheard = c.send_reply.ensures.unheard;
}

pub returns-in-Err : goal.returns-in-Err
returns-in-Err g c = record {
  answers = answered_not _ _ _ _ _ _ (record { same = refl; events = refl; latest = refl; counts_are = c.count_starved.ensures }) c.in-Err.ensures.untried;
  unheard = c.send_reply.ensures.unheard;
}
