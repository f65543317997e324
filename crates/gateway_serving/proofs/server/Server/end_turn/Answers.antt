use Rattle.std.proofs.Common.{List, length, ap, subst, arith}
use Rattle.amt_ports.specs.Devices.{link_at}
use Rattle.gateway_serving.{specs.{Answering.{AnswersEach}, declared.askers.Asker.{Asker}}, proofs.Answering.{ends_turn, few_refused}}
use Rattle.gateway_serving.proofs.server.Server.end_turn.Goals as goal

pub answer_all-requires : goal.answer_all-requires
answer_all-requires g c = record { few = omega (arith, ap length c.as_slice.ensures, c.requires.few) }

pub leave-requires : goal.leave-requires
leave-requires g c =
    let few = few_refused _ _ _ _ _ _ c.answer_all.ensures.answers in
    record { few = omega (arith, few, ap length c.as_slice.ensures, c.requires.few) }

pub returns : goal.returns
returns g c =
    let each = subst (λ (list : List Asker). AnswersEach c.args.turns c.args.self.now c.answer_all.new.self list (link_at g.K.Link c.args.control.now) (link_at g.K.Link c.answer_all.new.control)) c.as_slice.ensures c.answer_all.ensures.answers in record {
      ends = ends_turn c.args.turns each c.answer_all.ensures.unheard c.ask_stop-stops.ensures c.ask_leave-leaves.ensures c.leave.ensures.leaves c.clear.ensures;
    }
