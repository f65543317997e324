use Rattle.std.proofs.{Common.{List, arith, subst}, lemmas.List.{take_all}}
use Rattle.std.proofs.Math.ListN.{length-take}
use Rattle.amt_ports.specs.Devices.{link_at}
use Rattle.gateway_serving.{specs.{Answering.{AnswersEach}, declared.askers.Asker.{Asker}}, proofs.Answering.{answers_more, answers_none, few_refused, unheard_none, unheard_then}}
use Rattle.gateway_serving.proofs.server.Server.answer_all.Goals as goal

pub loop-asker-init : goal.loop-asker-init
loop-asker-init g c = record { answers = answers_none _ _ _; unheard = unheard_none _ _ }

pub answer-requires : goal.answer-requires
answer-requires g c =
    let few = few_refused _ _ _ _ _ _ c.loop-asker.invariant.answers in
    let some = length-take c.loop-asker.asker-index c.args.askers.now in
    record { few = omega (arith, few, some, c.loop-asker-test.true, c.requires.few) }

pub loop-asker-preserved : goal.loop-asker-preserved
loop-asker-preserved g c = record {
  answers = answers_more _ _ _ _ c.args.askers.now c.loop-asker.asker-index _ _ _ _ c.loop-asker-test.true c.loop-asker.invariant.answers c.answer.ensures.answers;
  unheard = unheard_then _ _ _ _ _ _ c.loop-asker.invariant.unheard c.answer.ensures.unheard;
}

pub returns : goal.returns
returns g c = record {
  answers = subst (λ (list : List Asker). AnswersEach c.args.turns c.args.self.now c.loop-asker.self list (link_at g.K.Link c.args.control.now) (link_at g.K.Link c.loop-asker.control)) (take_all c.loop-asker.asker-index c.args.askers.now (omega (arith, c.loop-asker-test.false))) c.loop-asker.invariant.answers;
  unheard = c.loop-asker.invariant.unheard;
}
