use Rattle.std.proofs.Common.{sym, ap, subst, ◌∙◌, arith}
use Rattle.endpoint_membership.{specs.{Limits.{live_count}, Table.{Holds, IsWithinLimits, TableValue}}, proofs.HoldsAfter.{rows_now}}
use Rattle.endpoint_membership.proofs.table.Table.live_endpoints.Goals as goal

pub overflow_cast-result : goal.overflow_cast-result
overflow_cast-result c =
    let within = subst IsWithinLimits (sym c.self.view_is) c.requires in
    let count = c.live_count.ensures in
    let most = within.endpoints in
    let lawful = c.self.invariant.0.endpoints in
    omega arith

pub returns : goal.returns
returns c settings log holds =
    let inside = subst (λ (table : TableValue). Holds settings table log) (sym c.self.view_is) holds in
    c.live_count.ensures ∙ ap live_count (rows_now settings _ log inside)
