use Rattle.std.proofs.Common.{max, is_some, refl, ap, subst, ◌∙◌, List, [], ◌∷◌, ◌++◌, filter}
use Rattle.amt_values.specs.{Ascending.{IsAscending}}
use Rattle.endpoint_membership.{specs.{EndpointGroup.{EndpointGroup}, FiltersAfter.{AreFiltersAfter, cleared_at, left_at}, Membership.{Membership, is_fresh, membership_order}, Memberships.{membership_in}, Stored.{is_of_another}, Table.{TableValue}, declared.change.Change.TheVariants.{Clear}}, proofs.{FiltersAfter.{AreFiltersAfter-clear}, HoldsAfter.{Holds-clear, rows_now, table_of}}}
use Rattle.endpoint_membership.proofs.table.Table.after_clearing.Goals as goal

pub returns : goal.returns
returns c settings log holds =
    let table = c.args.self.now in
    let endpoint = c.args.endpoint.now in
    let at = c.args.at.now in
    let moment = c.later.result in
    let pairs = c.in_ok-own.own.items in
    let fresh = filter (is_fresh table.lifetime moment) table.rows in
    let left = filter (is_of_another endpoint) fresh in
    let ascends = subst (λ (one : TableValue). IsAscending membership_order one.rows) c.self.view_is c.self.invariant.1 in
    let now = rows_now settings (table_of moment table left) (log ++ Clear endpoint at ∷ [])
    (Holds-clear settings table log endpoint at moment fresh left (c.later.ensures ∙ ap (λ (one : TableValue). max one.moment at) c.self.view_is) refl refl holds) in
    subst (λ (after : List Membership). AreFiltersAfter table.rows after c.clear_each.new.filters) now
    (AreFiltersAfter-clear table.lifetime moment table.rows ascends endpoint pairs c.clear_each.new.filters c.in_ok-own.ensures.of
    (λ group. let own : EndpointGroup = record { endpoint = endpoint; group = group } in c.in_ok-own.ensures.all group ∙ ap (λ (one : TableValue). is_some (membership_in one.rows own)) c.self.view_is)
    (λ pair. c.in_ok-clear_each.ensures pair ∙ ap (λ (listed : List EndpointGroup). cleared_at listed pair (left_at c.in_ok-filters.filters pair)) c.deref.ensures.value ∙ ap (cleared_at pairs pair) (c.in_ok-filters.ensures pair)))
