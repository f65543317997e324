use Rattle.std.proofs.{Common.{◌≡◌, length, rules}, lemmas.Result.{on_ok_weaker}}
use Rattle.amt_values.specs.{Octets.{AreOctets}}
use Rattle.relay_machine.specs.declared.event.Event.TheVariants.{Rotate}
use Rattle.amt_script.proofs.Printed.{line_of, secret_said}
use Rattle.amt_script.proofs.text.append_secret_event.Goals as goal

pub returns-clause-back : goal.returns-clause-back
returns-clause-back c =
    let secret = c.args.secret.now in
    let octets : AreOctets secret.0 = search rules in
    let whole : length secret.0 ≡ 32 = search rules in
    on_ok_weaker c.append-2.result (λ same. line_of (Rotate secret) (secret_said secret octets whole)) c.append-2.ensures.ok
