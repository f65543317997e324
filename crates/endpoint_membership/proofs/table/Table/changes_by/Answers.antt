use Rattle.std.proofs.{Common.{List, [], ◌∷◌, ◌++◌, sym, ap, subst, ◌∙◌}, lemmas.Result.{IfOk-weaker}}
use Rattle.endpoint_membership.{specs.{FiltersAfter.{AreFiltersAfter}, Membership.{Membership}, MembershipChanges.{AreChanges}, Table.{TableValue, memberships_now}}, proofs.HoldsAfter.{rows_now}}
use Rattle.endpoint_membership.proofs.table.Table.changes_by.Goals as goal

pub returns : goal.returns
returns c settings log holds =
    let after = memberships_now settings (log ++ c.args.change.now ∷ []) in
    IfOk-weaker c.changes_to.result _ _ (λ changes are. subst (λ (before : List Membership). AreChanges before after changes) (ap (λ (table : TableValue). table.rows) c.self.view_is ∙ rows_now settings c.args.self.now log holds)
    (are after (subst (λ (table : TableValue). AreFiltersAfter table.rows after c.in_ok-filters.filters) (sym c.self.view_is) (c.in_ok-filters.ensures settings log holds)))) c.changes_to.ensures
