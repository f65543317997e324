use Rattle.std.proofs.Common.{◌≡◌, Bool, ap, ◌∙◌}
use Rattle.endpoint_membership.specs.Table.{in_force_of}
use Rattle.relay_machine.specs.{declared.outcome.Outcome.TheVariants.{Queried}, EventAnswer.{is_limited}, Queries.{query_for}, Settings.{table_settings_of}}
use Rattle.relay_machine.proofs.Answering.{answered-replied}
use Rattle.relay_machine.proofs.request.take_request.Goals as goal

pub returns-clause-answers : goal.returns-clause-answers
returns-clause-answers c log holds =
    let settings = c.args.setup.now.settings in
    let terms = table_settings_of settings in
    let limited : c.is_limited-limited.result ≡ is_limited (in_force_of terms c.args.table.now) log = c.is_limited-limited.ensures terms log holds in
    answered-replied terms c.args.table.now log _ _ c.args.source _ _ c.replied.result holds (ap (λ (test : Bool). Queried c.args.v6 test) limited)
    (c.in_ok-query.ensures.value ∙ (λ i. query_for settings (c.current_key.ensures i) c.args.v6 (limited i) c.args.source c.args.nonce))
    c.replied.ensures.outcome c.replied.ensures.sends c.replied.ensures.change
