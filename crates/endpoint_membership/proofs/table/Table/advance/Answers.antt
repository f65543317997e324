use Rattle.std.proofs.Common.{◌∙◌, sym, subst}
use Rattle.amt_values.{specs.Ascending.{IsAscending}, proofs.AscendingLaws.{IsAscending-filter}}
use Rattle.endpoint_membership.{specs.{Membership.{is_fresh, membership_order}, Limits.{IsWithin}, Table.{Holds, IsWithinLimits, TableValue}}, proofs.{HoldsAfter.{Holds-mark, no_later}, WithinLimits.{IsWithin-filter}}}
use Rattle.endpoint_membership.proofs.table.Table.advance.Goals as goal

pub invariant_of-self : goal.invariant_of-self
invariant_of-self c = (
  c.self.invariant.0,
  subst (IsAscending membership_order) (sym c.purge.ensures)
      (IsAscending-filter membership_order (is_fresh c.self.inside.lifetime_ms c.later-self-inside.result) c.self.inside.rows c.self.invariant.1),
  c.self.invariant.2,
)

pub returns-clause-stands : goal.returns-clause-stands
returns-clause-stands c settings log holds =
    let inside = subst (λ (table : TableValue). Holds settings table log) (sym c.self.view_is) holds in
    Holds-mark settings _ log c.args.at.now c.later-self-inside.result c.purge.new.self c.later-self-inside.ensures c.purge.ensures inside

pub returns-clause-within : goal.returns-clause-within
returns-clause-within c within =
    let inside = subst IsWithinLimits (sym c.self.view_is) within in
    subst (IsWithin c.self.inside.limits) (sym c.purge.ensures) (IsWithin-filter c.self.inside.limits (is_fresh c.self.inside.lifetime_ms c.later-self-inside.result) c.self.inside.rows inside)

pub returns-clause-same : goal.returns-clause-same
returns-clause-same c settings log holds before =
    let inside = subst (λ (table : TableValue). Holds settings table log) (sym c.self.view_is) holds in
    no_later settings _ log c.args.at.now c.later-self-inside.result c.purge.new.self c.later-self-inside.ensures c.purge.ensures inside before ∙ c.self.view_is
