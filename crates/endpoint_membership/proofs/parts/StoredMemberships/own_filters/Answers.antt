use Rattle.std.{proofs.Common.{◌≡◌, true, false, cond, filter, List, map, ◌++◌, None, Option, Some, sym, ap, subst, ◌∙◌}, specs.{BTreeMap.{get}, Map.Iter.{deref}}}
use Rattle.amt_values.specs.{Order.{ip_order}, Ascending.{IsAscending, has}}
use Rattle.endpoint_membership.{specs.{Effective.{IsInOrder}, EndpointGroup.{EndpointGroup, endpoint_group_order, same_endpoint, same_group}, EndpointMemberships.{renewed_filter_of}, Membership.{Membership, endpoint_group_of, is_fresh, membership_order}, Stored.{only}, declared.after_report.RenewedFilter.{RenewedFilter}}, proofs.EnoughRecords.{in_order_set}}
use Rattle.endpoint_membership.proofs.{OwnFilters.{filter_of-stored, none_past, same_endpoint-ne, seen_filter-all, seen_filter-more, seen_filter-none, walked, within}, PairsWalked.{stored_at}, PartOrders.{pairs_compared}, MembershipIn.{IsAscending-pairs}, parts.StoredMemberships.own_filters.Goals.{in-None, in-Some+then-ne}}
use Rattle.endpoint_membership.proofs.parts.StoredMemberships.own_filters.Goals as goal

pub loop-at-preserved-in_ok-set_filter : goal.loop-at-preserved-in_ok-set_filter
loop-at-preserved-in_ok-set_filter c = (
  λ group.
      let endpoint = c.args.endpoint.now in
      let rows = c.args.self.now in
      let stored = c.in-Some-get.stored.now in
      let old = get ip_order c.loop-at.filters group in
      let same = ap (λ (one : EndpointGroup). same_endpoint one.endpoint endpoint) (sym c.at.view_is) ∙ same_endpoint-ne c.at.inside.endpoint endpoint c.ne.result false c.ne.ensures c.if-ne.false in
      let found = stored_at c.self.inside.filters rows c.in-Some.at.now (Some stored) c.self.view_is c.in-Some-get.ensures.value in
      let makes = filter_of-stored c.args.lifetime_ms c.args.moment endpoint rows c.in-Some.at.now stored true found (sym c.is_fresh.ensures ∙ c.if-is_fresh.true) in
      seen_filter-more c.args.lifetime_ms c.args.moment endpoint rows c.loop-at.yielded c.in-Some.at group _ old _ same makes (c.loop-at.invariant.0 group)
      (c.in_ok-set_filter.ensures group ∙ ap (λ (made : RenewedFilter). cond (same_group c.at.inside.group group) (Some made) old) c.in_ok-renewed_filter_of.ensures.stored
      ∙ ap (λ (one : EndpointGroup). cond (same_group one.group group) (Some (record { filter = stored.filter; renewed = stored.renewed })) old) c.at.view_is),
  λ group. subst IsInOrder (sym (c.in_ok-set_filter.ensures group))
      (in_order_set (same_group c.at.inside.group group) c.in_ok-renewed_filter_of.field-0 (get ip_order c.loop-at.filters group)
      (subst (λ (made : RenewedFilter). IsAscending ip_order made.filter.sources) (sym c.in_ok-renewed_filter_of.ensures.stored) c.in_ok-renewed_filter_of.ensures.in_order) (c.loop-at.invariant.1 group)),
)

pub loop-at-preserved-else-is_fresh : goal.loop-at-preserved-else-is_fresh
loop-at-preserved-else-is_fresh c = (
  λ group.
      let endpoint = c.args.endpoint.now in
      let rows = c.args.self.now in
      let same = ap (λ (one : EndpointGroup). same_endpoint one.endpoint endpoint) (sym c.at.view_is) ∙ same_endpoint-ne c.at.inside.endpoint endpoint c.ne.result false c.ne.ensures c.if-ne.false in
      let found = stored_at c.self.inside.filters rows c.in-Some.at.now (Some c.in-Some-get.stored.now) c.self.view_is c.in-Some-get.ensures.value in
      seen_filter-none c.args.lifetime_ms c.args.moment endpoint rows c.loop-at.yielded c.in-Some.at group (get ip_order c.loop-at.filters group) same
      (filter_of-stored c.args.lifetime_ms c.args.moment endpoint rows c.in-Some.at.now c.in-Some-get.stored.now false found (sym c.is_fresh.ensures ∙ c.if-is_fresh.false)) (c.loop-at.invariant.0 group),
  c.loop-at.invariant.1,
)

pub loop-at-preserved : goal.loop-at-preserved
loop-at-preserved c = (
  λ group.
      let endpoint = c.args.endpoint.now in
      let same = ap (λ (one : EndpointGroup). same_endpoint one.endpoint endpoint) (sym c.at.view_is) ∙ same_endpoint-ne c.at.inside.endpoint endpoint c.ne.result false c.ne.ensures c.if-ne.false in
      seen_filter-none c.args.lifetime_ms c.args.moment endpoint c.args.self.now c.loop-at.yielded c.in-Some.at group (get ip_order c.loop-at.filters group) same
      (ap (λ (found : Option Membership). renewed_filter_of (only (is_fresh c.args.lifetime_ms c.args.moment) found)) (stored_at c.self.inside.filters c.args.self.now c.in-Some.at.now None c.self.view_is c.in_default.ensures.value))
      (c.loop-at.invariant.0 group),
  c.loop-at.invariant.1,
)

pub returns-clause-own : goal.returns-clause-own
returns-clause-own c group =
    let endpoint = c.args.endpoint.now in
    let rows = c.self.inside.filters in
    let own : EndpointGroup = record { endpoint = endpoint; group = group } in
    let seen = c.loop-at.yielded in
    let walk = walked _ endpoint rows c.pairs.result.now _ _ _ seen pairs_compared c.pairs.ensures.keys (c.range-at-items.ensures.between tt) c.into_iter-at-iterator.ensures.into_iter_gives c.loop-at.yielded_by in
    c.loop-at.invariant.0 group ∙ seen_filter-all c.args.lifetime_ms c.args.moment endpoint c.args.self.now seen _ group
    (subst (λ (all : List Membership). filter (within endpoint) (map endpoint_group_of all) ≡ map deref seen ++ c.loop-at.at-iterator) c.self.view_is walk) (elim c.match-next.branch [
      | in-None w ↦ ap (λ (rest : List EndpointGroup). has endpoint_group_order rest own) w.in-None.ensures.steps.0
      | in-Some+then-ne w ↦ ap (λ (rest : List EndpointGroup). has endpoint_group_order rest own) w.in-Some.ensures.steps
          ∙ none_past endpoint group (map endpoint_group_of rows) (map deref seen) w.in-Some.at.now c.next.new.self (IsAscending-pairs rows c.self.invariant.ascends) (walk ∙ ap (λ (rest : List EndpointGroup). map deref seen ++ rest) w.in-Some.ensures.steps)
          (ap (λ (one : EndpointGroup). same_endpoint one.endpoint endpoint) (sym w.at.view_is) ∙ same_endpoint-ne w.at.inside.endpoint endpoint w.ne.result true w.ne.ensures w.if-ne.true)
    ])

pub returns-clause-ascends : goal.returns-clause-ascends
returns-clause-ascends c = subst (IsAscending membership_order) c.self.view_is c.self.invariant.ascends
