use Rattle.{std.proofs.Common.{[], ◌∷◌, ◌++◌, List, refl, ap, ◌∙◌}, relay_machine.specs.{Answers.{sends_of}, declared.sends.OneSend.{OneSend}}, amt_pair.proofs.PairStates.{on_err_by}, amt_dual.{specs.declared.step.DualPart.TheVariants.{Relay}, proofs.DualStates.{same_pair}}}
use Rattle.amt_dual.proofs.pair.DualPair.take_at_relay.Goals as goal

pub returns-in_err-parts-clause-err : goal.returns-in_err-parts-clause-err
returns-in_err-parts-clause-err c = λ setup course stands. on_err_by c.from_residual.result refl

pub returns-in_err-step-clause-err : goal.returns-in_err-step-clause-err
returns-in_err-step-clause-err c = λ setup course stands.
    let same = c.in_err-step.ensures.err setup course stands.relay in
    on_err_by c.from_residual-in_err-step.result
    (same_pair c.args.self.now c.take_event.new.relay c.args.self.now.gateways c.args.self.now.up c.take_event.new.down _ _ _ _ _ _ same.0 refl refl same.1)

pub returns-clause-next : goal.returns-clause-next
returns-clause-next c = λ setup course stands by. record {
  relay = c.in_ok-step.ensures.next setup course stands.relay;
  gateways = stands.gateways;
  up = stands.up;
  down = c.in_ok-step.ensures.down setup course stands.relay
      ∙ ap (λ (kept : List OneSend). kept ++ sends_of setup.settings setup.secret course.relay c.args.event.now) stands.down;
}

pub returns-clause-parts : goal.returns-clause-parts
returns-clause-parts c = λ setup course stands.
    c.step_of.ensures.parts ∙ c.push_reserved.ensures.items ∙ (λ i. c.in_ok-parts.ensures.items i ++ Relay (c.in_ok-step.ensures.step setup course stands.relay i) ∷ [])
