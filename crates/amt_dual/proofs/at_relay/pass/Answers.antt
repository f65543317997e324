use Rattle.{relay_machine.specs.declared.event.Event.TheVariants.{Moment}, amt_dual.proofs.DualStates.{relay_step_is}}
use Rattle.amt_dual.proofs.at_relay.pass.Goals as goal

pub returns : goal.returns
returns c = record {
  step = λ setup course at.
      relay_step_is setup course (Moment c.args.at.now) c.step-step.result (c.step-step.ensures.outcome setup.settings setup.secret course.relay at)
      (c.step-step.ensures.sends setup.settings setup.secret course.relay at) (c.step-step.ensures.change setup.settings setup.secret course.relay at);
  next = λ setup course at. c.step-step.ensures.next setup.settings setup.secret course.relay at;
  settings = c.step-step.ensures.settings;
  err = c.step-step.ensures.err;
}
