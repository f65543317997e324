use Rattle.{std.proofs.Common.{false, true, refl}, amt_dual.{specs.Answers.{nonce_for}, proofs.DualMachines.{called4, called6, next4, next6, settings_stay}}}
use Rattle.amt_dual.proofs.dual.Dual.take_call.Goals as goal

pub returns-in_ok-step-clause-steps : goal.returns-in_ok-step-clause-steps
returns-in_ok-step-clause-steps c = λ settings course at.
    called6 settings course c.args.event.now c.in_ok-step.step c.args.v6 c.if-v6.true (c.in_ok-step.ensures.step settings.v6 (nonce_for settings.nonce true) course.v6 at.v6)

pub returns-in_ok-step-clause-next : goal.returns-in_ok-step-clause-next
returns-in_ok-step-clause-next c = λ settings course at.
    next6 settings course c.args.event.now c.in_ok-step.step c.args.v6 c.args.self.now.v4 c.take_at.new.machine c.if-v6.true at.v4
    (c.in_ok-step.ensures.next settings.v6 (nonce_for settings.nonce true) course.v6 at.v6)

pub returns-in_ok-step-clause-settings : goal.returns-in_ok-step-clause-settings
returns-in_ok-step-clause-settings c = settings_stay c.args.self.now.v4 c.args.self.now.v6 c.args.self.now.v4 c.take_at.new.machine refl c.in_ok-step.ensures.settings

pub returns-in_ok-step-2-clause-steps : goal.returns-in_ok-step-2-clause-steps
returns-in_ok-step-2-clause-steps c = λ settings course at.
    called4 settings course c.args.event.now c.in_ok-step-2.step c.args.v6 c.if-v6.false (c.in_ok-step-2.ensures.step settings.v4 (nonce_for settings.nonce false) course.v4 at.v4)

pub returns-in_ok-step-2-clause-next : goal.returns-in_ok-step-2-clause-next
returns-in_ok-step-2-clause-next c = λ settings course at.
    next4 settings course c.args.event.now c.in_ok-step-2.step c.args.v6 c.take_at-else-v6.new.machine c.args.self.now.v6 c.if-v6.false
    (c.in_ok-step-2.ensures.next settings.v4 (nonce_for settings.nonce false) course.v4 at.v4) at.v6

pub returns-in_ok-step-2-clause-settings : goal.returns-in_ok-step-2-clause-settings
returns-in_ok-step-2-clause-settings c = settings_stay c.args.self.now.v4 c.args.self.now.v6 c.take_at-else-v6.new.machine c.args.self.now.v6 c.in_ok-step-2.ensures.settings refl
