use Rattle.std.proofs.Common.{sym, ap, subst, ◌∙◌}
use Rattle.amt_values.{specs.Ascending.{IsAscending}, proofs.AscendingLaws.{IsAscending-filter}}
use Rattle.endpoint_membership.{specs.{Stored.{is_of_another}, Membership.{is_fresh, membership_order}, Limits.{IsWithin}, Memberships.{is_live}, Table.{Holds, IsWithinLimits, TableValue}}, proofs.{Clearings.{none_cleared}, HoldsAfter.{Holds-clear, fresh_are}, WithinLimits.{IsWithin-filter}}}
use Rattle.endpoint_membership.proofs.table.Table.clear.Goals as goal

pub invariant_of-self : goal.invariant_of-self
invariant_of-self c =
    let fresh = subst (IsAscending membership_order) (sym c.purge.ensures)
    (IsAscending-filter membership_order (is_fresh c.self.inside.lifetime_ms c.later-self-inside.result) c.self.inside.rows c.self.invariant.1) in
    (c.self.invariant.0, subst (IsAscending membership_order) (sym c.drop_endpoint.ensures) (IsAscending-filter membership_order (is_of_another c.args.endpoint.now) c.purge.new.self fresh), c.self.invariant.2)

pub returns-clause-live : goal.returns-clause-live
returns-clause-live c settings log holds =
    let inside = subst (λ (table : TableValue). Holds settings table log) (sym c.self.view_is) holds in
    c.is_live-live.ensures ∙ ap (is_live c.args.endpoint.now) (c.purge.ensures
    ∙ fresh_are settings _ log c.args.at.now c.later-self-inside.result c.later-self-inside.ensures inside)

pub returns-clause-stands : goal.returns-clause-stands
returns-clause-stands c settings log holds =
    let inside = subst (λ (table : TableValue). Holds settings table log) (sym c.self.view_is) holds in
    Holds-clear settings _ log c.args.endpoint.now c.args.at.now c.later-self-inside.result c.purge.new.self c.drop_endpoint.new.self
    c.later-self-inside.ensures c.purge.ensures c.drop_endpoint.ensures inside

pub returns-clause-within : goal.returns-clause-within
returns-clause-within c within =
    let inside = subst IsWithinLimits (sym c.self.view_is) within in
    let limits = c.self.inside.limits in
    let fresh = subst (IsWithin limits) (sym c.purge.ensures) (IsWithin-filter limits (is_fresh c.self.inside.lifetime_ms c.later-self-inside.result) c.self.inside.rows inside) in
    subst (IsWithin limits) (sym c.drop_endpoint.ensures) (IsWithin-filter limits (is_of_another c.args.endpoint.now) c.purge.new.self fresh)

pub returns-clause-same : goal.returns-clause-same
returns-clause-same c settings log holds before none =
    let inside = subst (λ (table : TableValue). Holds settings table log) (sym c.self.view_is) holds in
    let fresh = sym c.is_live-live.ensures ∙ none in
    none_cleared settings _ log c.args.endpoint.now c.args.at.now c.later-self-inside.result c.purge.new.self c.drop_endpoint.new.self
    c.later-self-inside.ensures c.purge.ensures c.drop_endpoint.ensures inside before fresh ∙ c.self.view_is
