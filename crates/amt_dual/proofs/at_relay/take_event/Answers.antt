use Rattle.{std.proofs.Common.{◌≡◌, [], ◌++◌, ap, refl, ◌∙◌, List}, relay_machine.specs.{Answers.{sends_of}, declared.sends.OneSend.{OneSend}}, amt_pair.proofs.{PairStates.{on_err_by}, RelaySteps.{sender_change, sender_payload}}}
use Rattle.amt_dual.proofs.at_relay.take_event.Goals as goal

pub returns-in_err-step-clause-err : goal.returns-in_err-step-clause-err
returns-in_err-step-clause-err c = λ setup course at. on_err_by c.from_residual.result (c.in_err-step.ensures.err, refl)

pub returns-in_err-keep_copies-clause-err : goal.returns-in_err-keep_copies-clause-err
returns-in_err-keep_copies-clause-err c = λ setup course at.
    let sends = c.in_ok-step.ensures.sends setup.settings setup.secret course.relay at in
    let some : sends_of setup.settings setup.secret course.relay c.args.event.now ≡ [] → ⊥ =
    λ empty. let sure = c.in_err-keep_copies.ensures.none (c.as_slice.ensures ∙ sends ∙ empty) in cc in
    let payload = sender_payload setup.settings setup.secret course.relay c.args.event.now some in
    let change = c.in_ok-step.ensures.change setup.settings setup.secret course.relay at
    ∙ sender_change setup.settings setup.secret course.relay c.args.event.now some in
    on_err_by c.from_residual-in_err-keep_copies.result
    (c.in_ok-step.ensures.same setup.settings setup.secret course.relay at payload change, c.in_err-keep_copies.ensures.same)

pub returns-clause-step : goal.returns-clause-step
returns-clause-step c = λ setup course at i. record {
  outcome = c.in_ok-step.ensures.outcome setup.settings setup.secret course.relay at i;
  sends = c.in_ok-step.ensures.sends setup.settings setup.secret course.relay at i;
  change = c.in_ok-step.ensures.change setup.settings setup.secret course.relay at i;
}

pub returns-clause-next : goal.returns-clause-next
returns-clause-next c = λ setup course at. c.in_ok-step.ensures.next setup.settings setup.secret course.relay at

pub returns-clause-down : goal.returns-clause-down
returns-clause-down c = λ setup course at.
    c.in_ok-keep_copies.ensures.kept
    ∙ ap (λ (more : List OneSend). c.args.down.now ++ more) (c.as_slice.ensures ∙ c.in_ok-step.ensures.sends setup.settings setup.secret course.relay at)
