use Rattle.{gateway_machine.specs.Runs.{answer_after}, amt_dual.proofs.DualMachines.{step_is}}
use Rattle.amt_dual.proofs.dual.take_at.Goals as goal

pub returns : goal.returns
returns c = record {
  step = λ settings first events at.
      step_is (answer_after settings first events c.args.event.now) c.step.result (c.step.ensures.outcome settings first events at) (c.step.ensures.sends settings first events at)
      (c.step.ensures.deliver settings first events at);
  next = c.step.ensures.next;
  settings = c.step.ensures.settings;
  err = c.step.ensures.err;
  same = c.step.ensures.same;
}
