use Rattle.std.{proofs.{Common.{◌≡◌, ℕ, List, Result, Ok, Err, IfOk, OnOk, sym, ap, subst, ◌∙◌, filter}, lemmas.Result.{IfOk-weaker}}, specs.{BTreeMap.{BTreeMap, IsOrdered, get}, List.{filter_map}, declared.cmp.Ordering.{Ordering}}}
use Rattle.amt_values.specs.{declared.address.Ip.{Ip}, Order.{ip_order}, EndpointValue.{EndpointValue}, Ascending.{IsAscending}}
use Rattle.source_filter.{specs.declared.record.Record.{Record}, proofs.Compared.{compared}}
use Rattle.endpoint_membership.specs.{declared.after_report.{OwnAfter.{OwnAfter}, RenewedFilter.{RenewedFilter}}, EndpointMemberships.{AreGone, AreOf, AreOwn, gone_of_entry, membership_of_entry, membership_of_renewed, renewed_filter_after_all, renewed_filter_of}, Log.{on_group}, Membership.{Membership, is_fresh, membership_order}, Memberships.{membership_in}, Stored.{only}, Limits.{group_count}}
use Rattle.endpoint_membership.proofs.FilterMap.{AreGone-filters, AreOf-filters, IsAscending-filters, membership_in-filters, length-filters}
use Rattle.endpoint_membership.proofs.after_report.memberships_after.Goals as goal

own_by : {E : Type 0} (lifetime moment : ℕ) (endpoint : EndpointValue) (records : List Record) (rows : List Membership) (filters : BTreeMap Ip RenewedFilter) (answer : Result OwnAfter E)
    → ((group : Ip) → get ip_order filters group
    ≡ renewed_filter_after_all moment (on_group group records) (renewed_filter_of (only (is_fresh lifetime moment) (membership_in rows (record { endpoint = endpoint; group = group })))))
    → IfOk answer (λ after. after.memberships.items ≡ filter_map (membership_of_entry endpoint) filters.entries) → OnOk answer (IsOrdered ip_order filters)
    → IfOk answer (λ after. AreOwn lifetime moment endpoint records rows after.memberships.items)
own_by lifetime moment endpoint records rows filters (Err fault) each is ordered = tt
own_by lifetime moment endpoint records rows filters (Ok after) each is ordered = record {
  ascends = subst (IsAscending membership_order) (sym is) (IsAscending-filters endpoint filters.entries ordered);
  of = subst (AreOf endpoint) (sym is) (AreOf-filters endpoint filters.entries);
  each = λ group. ap (λ (all : List Membership). membership_in all (record { endpoint = endpoint; group = group })) is
      ∙ membership_in-filters endpoint filters.entries group ordered ∙ ap (membership_of_renewed endpoint group) (each group);
}

gone_by : {E : Type 0} (lifetime moment : ℕ) (endpoint : EndpointValue) (records : List Record) (rows : List Membership) (filters : BTreeMap Ip RenewedFilter) (answer : Result OwnAfter E)
    → ((group : Ip) → get ip_order filters group
    ≡ renewed_filter_after_all moment (on_group group records) (renewed_filter_of (only (is_fresh lifetime moment) (membership_in rows (record { endpoint = endpoint; group = group })))))
    → IfOk answer (λ after. after.memberships.items ≡ filter_map (membership_of_entry endpoint) filters.entries)
    → IfOk answer (λ after. after.gone.items ≡ filter_map (gone_of_entry endpoint) filters.entries) → OnOk answer (IsOrdered ip_order filters)
    → IfOk answer (λ after. AreGone lifetime moment endpoint rows after.memberships.items after.gone.items)
gone_by lifetime moment endpoint records rows filters (Err fault) each is left ordered = tt
gone_by lifetime moment endpoint records rows filters (Ok after) each is left ordered =
    AreGone-filters lifetime moment endpoint records rows after.memberships.items after.gone.items filters ordered each is left

filters_are : (c : goal.After-memberships_of_filters) (group : Ip) → get ip_order c.apply_records.new.filters group
    ≡ renewed_filter_after_all c.args.moment (on_group group c.args.records.now) (renewed_filter_of (only (is_fresh c.args.lifetime_ms c.args.moment) (membership_in c.args.rows.now (record { endpoint = c.args.endpoint.now; group = group }))))
filters_are c group =
    c.in_ok-apply_records.ensures group
    ∙ ap (λ (records : List Record). renewed_filter_after_all c.args.moment (on_group group records) (get ip_order c.in_ok-filters.filters group)) c.as_slice.ensures
    ∙ ap (renewed_filter_after_all c.args.moment (on_group group c.args.records.now)) (c.in_ok-filters.ensures.own group)

pub returns-clause-own : goal.returns-clause-own
returns-clause-own c =
    own_by c.args.lifetime_ms c.args.moment c.args.endpoint.now c.args.records.now c.args.rows.now c.apply_records.new.filters c.memberships_of_filters.result (filters_are c) c.memberships_of_filters.ensures.rows c.memberships_of_filters.ensures.ordered

pub returns-clause-gone : goal.returns-clause-gone
returns-clause-gone c =
    gone_by c.args.lifetime_ms c.args.moment c.args.endpoint.now c.args.records.now c.args.rows.now c.apply_records.new.filters c.memberships_of_filters.result (filters_are c)
    c.memberships_of_filters.ensures.rows c.memberships_of_filters.ensures.gone c.memberships_of_filters.ensures.ordered

pub returns-clause-before : goal.returns-clause-before
returns-clause-before c =
    IfOk-weaker c.memberships_of_filters.result (λ after. after.before ≡ c.len-before.result)
    (λ after. after.before ≡ group_count c.args.endpoint.now (filter (is_fresh c.args.lifetime_ms c.args.moment) c.args.rows.now)) (λ after is.
    is ∙ c.len-before.ensures.len ∙ length-filters c.args.lifetime_ms c.args.moment c.args.endpoint.now c.args.rows.now c.in_ok-filters.filters c.in_ok-filters.ensures.ascends
    (subst (λ (order : Ip → Ip → Ordering). IsOrdered order c.in_ok-filters.filters) compared c.len-before.ensures.ordered) c.in_ok-filters.ensures.own)
    c.memberships_of_filters.ensures.before
