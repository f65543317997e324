use Rattle.std.proofs.{Common.{◌≡◌, ◌∙◌}, lemmas.Result.{IfOk-weaker}}
use Rattle.socket_merge.{specs.{Changes.{change_records, changes_between}, FullReport.{family_by}, History.{with_call}}, proofs.Changed.{changes-of_call}}
use Rattle.gateway_machine.proofs.calls.call_changes.Goals as goal

pub returns-clause-records : goal.returns-clause-records
returns-clause-records c =
    let family = family_by c.args.here.now.settings.v6 in
    let before = c.args.here.now.sockets.now in
    let after = c.args.after.now in
    λ history held at call holds.
    IfOk-weaker c.changes_since.result (λ records. records ≡ changes_between family before.sockets after.sockets) (λ records. records ≡ change_records family history (with_call at call history))
    (λ records is. is ∙ changes-of_call family before after history at call held holds) c.changes_since.ensures.records
