use Rattle.std.proofs.{Common.{◌≡◌, map, sym, ap, subst, ◌∙◌}, lemmas.Result.{IfOk-weaker}}
use Rattle.endpoint_membership.{specs.{Limits.{AreFew}, Log.{latest}, Memberships.{row_of, rows_of}, Table.{ForLog, Holds, TableValue}}, proofs.{FewRows.{AreFew-row_of}, MembershipsByLog.{rows_are}}}
use Rattle.endpoint_membership.proofs.table.Table.rows.Goals as goal

pub returns-clause-stands : goal.returns-clause-stands
returns-clause-stands c =
    IfOk-weaker c.show.result (λ rows. rows ≡ map row_of c.self.inside.rows) (λ rows. ForLog c.args.self.now (λ settings log. rows ≡ rows_of settings.lifetime (latest log) log)) (λ rows is settings log holds.
    let inside = subst (λ (table : TableValue). Holds settings table log) (sym c.self.view_is) holds in
    is ∙ ap (map row_of) (rows_are settings.lifetime (latest log) log c.self.inside.rows inside.rows)) c.show.ensures

pub returns-clause-bounded : goal.returns-clause-bounded
returns-clause-bounded c within =
    let stored = ap (λ (table : TableValue). table.rows) c.self.view_is in
    IfOk-weaker c.show.result (λ rows. rows ≡ map row_of c.self.inside.rows) (AreFew c.args.self.now.limits) (λ rows is. subst (AreFew c.args.self.now.limits) (sym (is ∙ ap (map row_of) stored)) (AreFew-row_of c.args.self.now.limits c.args.self.now.rows within)) c.show.ensures
