use Rattle.std.proofs.{Common.{List, sym, ap, subst, ◌∙◌}}
use Rattle.endpoint_membership.{specs.{Membership.{Membership}, MembershipChanges.{filter_at}, Table.{Holds, TableValue}}, proofs.HoldsAfter.{rows_now}}
use Rattle.endpoint_membership.proofs.table.Table.filter.Goals as goal

pub returns-clause-log : goal.returns-clause-log
returns-clause-log c settings log holds =
    let inside = subst (λ (table : TableValue). Holds settings table log) (sym c.self.view_is) holds in
    c.filter.ensures ∙ ap (λ (rows : List Membership). filter_at rows (record { endpoint = c.args.endpoint.now; group = c.args.group.now })) (rows_now settings _ log inside)
