use Rattle.std.{proofs.Common.{◌<◌, max, ap, subst, ◌∙◌, List}, specs.Option.{option_or}}
use Rattle.amt_values.specs.Ascending.{IsAscending}
use Rattle.endpoint_membership.{specs.{EndpointGroup.{EndpointGroup}, FiltersAfter.{cleared_at, left_at, left_of}, Membership.{membership_order}, Memberships.{membership_in}, Table.{TableValue, memberships_with}}, proofs.{FiltersAfter.{AreFiltersAfter-report}, HoldsAfter.{AreAfterReport-table}}}
use Rattle.endpoint_membership.proofs.table.Table.after_report.Goals as goal

pub returns : goal.returns
returns c settings log holds =
    let table = c.args.self.now in
    let endpoint = c.args.endpoint.now in
    let records = c.args.records.now in
    let at = c.args.at.now in
    let moment = c.later-moment.result in
    let own = c.in_ok-memberships.field-0.memberships.items in
    let gone = c.in_ok-memberships.field-0.gone.items in
    let owned = c.in_ok-memberships.ensures.own in
    let ascends = subst (λ (one : TableValue). IsAscending membership_order one.rows) c.self.view_is c.self.invariant.1 in
    let some = subst (λ (one : TableValue). 0 < one.lifetime) c.self.view_is c.self.invariant.0.some_time in
    let put = AreAfterReport-table settings table log endpoint records at moment own some (c.later-moment.ensures ∙ ap (λ (one : TableValue). max one.moment at) c.self.view_is) owned holds in
    AreFiltersAfter-report table.lifetime moment table.rows ascends endpoint records own (memberships_with settings log endpoint records at) gone c.set_each.new.filters owned c.in_ok-memberships.ensures.gone put
    (λ pair. c.in_ok-set_each.ensures pair ∙ ap (option_or (left_of (membership_in own pair)))
    (c.in_ok-clear_each.ensures pair ∙ ap (λ (listed : List EndpointGroup). cleared_at listed pair (left_at c.in_ok-filters.filters pair)) c.deref.ensures.value ∙ ap (cleared_at gone pair) (c.in_ok-filters.ensures pair)))
