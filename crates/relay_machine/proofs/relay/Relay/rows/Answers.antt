use Rattle.std.proofs.{Common.{ℕ, ap, ◌∙◌}, lemmas.Result.{IfOk-weaker}}
use Rattle.endpoint_membership.specs.Memberships.{rows_of}
use Rattle.relay_machine.{specs.{Accepted.{accepted_log}, Answers.{settings_of}, Settings.{membership_interval_ms, table_settings_of}}, proofs.{Judged.{latest-accepted_log}, Onward.{AreFew-settings}}}
use Rattle.relay_machine.proofs.relay.Relay.rows.Goals as goal

pub returns-clause-stands : goal.returns-clause-stands
returns-clause-stands c = IfOk-weaker c.rows.result _ _
    (λ rows shown settings first events at.
    let log = accepted_log settings first events in
    shown (table_settings_of settings) log at.table
    ∙ ap (λ (moment : ℕ). rows_of (membership_interval_ms settings) moment log) (latest-accepted_log settings first events)) c.rows.ensures.stands

pub returns-clause-published : goal.returns-clause-published
returns-clause-published c = IfOk-weaker c.rows.result _ _
    (λ rows shown. shown (table_settings_of (settings_of c.args.self.now))) c.rows.ensures.stands

pub returns-clause-bounded : goal.returns-clause-bounded
returns-clause-bounded c = IfOk-weaker c.rows.result _ _ (AreFew-settings c.args.self.now) (c.rows.ensures.bounded c.args.self.now.within)
