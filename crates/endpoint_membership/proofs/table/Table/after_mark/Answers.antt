use Rattle.std.proofs.{Common.{max, refl, ap, subst, ◌∙◌, [], ◌∷◌, ◌++◌, filter}, lemmas.Result.{IfOk-weaker}}
use Rattle.amt_values.specs.Ascending.{IsAscending}
use Rattle.endpoint_membership.{specs.{FiltersAfter.{AreFiltersAfter}, Membership.{is_fresh, membership_order}, Table.{TableValue}, declared.change.Change.TheVariants.{Mark}}, proofs.{FiltersAfter.{AreFiltersAfter-mark}, HoldsAfter.{Holds-mark, rows_now, table_of}}}
use Rattle.endpoint_membership.proofs.table.Table.after_mark.Goals as goal

pub returns : goal.returns
returns c settings log holds =
    let table = c.args.self.now in
    let at = c.args.at.now in
    let moment = c.later.result in
    let fresh = filter (is_fresh table.lifetime moment) table.rows in
    let ascends = subst (λ (one : TableValue). IsAscending membership_order one.rows) c.self.view_is c.self.invariant.1 in
    let now = rows_now settings (table_of moment table fresh) (log ++ Mark at ∷ []) (Holds-mark settings table log at moment fresh (c.later.ensures ∙ ap (λ (one : TableValue). max one.moment at) c.self.view_is) refl holds) in
    IfOk-weaker c.expired_after.result _ _ (λ filters left. subst (λ after. AreFiltersAfter table.rows after filters) now (AreFiltersAfter-mark table.lifetime moment table.rows ascends filters left)) c.expired_after.ensures
