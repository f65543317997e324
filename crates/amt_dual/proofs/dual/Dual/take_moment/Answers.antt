use Rattle.{std.proofs.Common.{false, true, Some, refl, sym, subst}, gateway_machine.specs.{Runs.{GatewayAt}, declared.gateway.Gateway.{Gateway}}, amt_dual.{specs.Answers.{nonce_for}, proofs.DualMachines.{settings_stay}}}
use Rattle.amt_dual.proofs.dual.Dual.take_moment.Goals as goal

pub returns-in-Ok-clause-steps : goal.returns-in-Ok-clause-steps
returns-in-Ok-clause-steps c = λ settings course at all. record {
  v4 = λ i. Some (c.in_ok-v4.ensures.step settings.v4 (nonce_for settings.nonce false) course.v4 at.v4 i);
  v6 = λ i. Some (c.in-Ok.ensures.step settings.v6 (nonce_for settings.nonce true) course.v6 at.v6 i);
}

pub returns-in-Ok-clause-next : goal.returns-in-Ok-clause-next
returns-in-Ok-clause-next c = λ settings course at all. record {
  v4 = c.in_ok-v4.ensures.next settings.v4 (nonce_for settings.nonce false) course.v4 at.v4;
  v6 = c.in-Ok.ensures.next settings.v6 (nonce_for settings.nonce true) course.v6 at.v6;
}

pub returns-in-Ok-clause-settings : goal.returns-in-Ok-clause-settings
returns-in-Ok-clause-settings c = settings_stay c.args.self.now.v4 c.args.self.now.v6 c.pass_at.new.machine c.pass_at-2.new.machine c.in_ok-v4.ensures.settings c.in-Ok.ensures.settings

pub returns-in-Err-clause-starved : goal.returns-in-Err-clause-starved
returns-in-Err-clause-starved c = λ settings course at starved. record {
  at = c.args.at.now;
  moment = refl;
  v4 = λ i. Some (c.in_ok-v4.ensures.step settings.v4 (nonce_for settings.nonce false) course.v4 at.v4 i);
  v6 = refl;
  stands = record {
    v4 = c.in_ok-v4.ensures.next settings.v4 (nonce_for settings.nonce false) course.v4 at.v4;
    v6 = subst (λ (machine : Gateway). GatewayAt machine settings.v6 (nonce_for settings.nonce true) course.v6) (sym c.in-Err.ensures.err) at.v6;
  };
}
