use Rattle.std.{proofs.Common.{◌≡◌, List, None, if◌then◌else◌, sym, ap, subst, ◌∙◌, ℕ, filter, Option, Some}, specs.Option.{option_or}}
use Rattle.amt_values.{specs.{Ascending.{IsAscending, has}, EndpointValue.{EndpointValue}}, proofs.AscendingLaws.{IsAscending-filter}}
use Rattle.endpoint_membership.specs.{Membership.{is_fresh, membership_order, Membership}, EndpointGroup.{EndpointGroup, endpoint_group_order}, Memberships.{membership_in}, EndpointMemberships.{limit_by_own, AreGone, AreOwn}, Table.{Holds, IsWithinLimits, TableValue, limit_passed, in_force_of}, Limits.{group_count}, declared.limits.LimitFault.{LimitFault}}
use Rattle.endpoint_membership.proofs.{AfterReport.{AreAfterReport}, HoldsAfter.{Holds-report, IsWithin-log, passed_is, unfit}, LimitByOwn.{first_limit_is}, ReportFits.{AreAfterReport-set, IsWithin-reported, groups_fit, sizes_fit}}
use Rattle.source_filter.specs.declared.record.Record.{Record}
use Rattle.endpoint_membership.proofs.table.Table.accept.Goals as goal

-- what was judged is the limit by the endpoint's memberships, with the table seen as it is kept
judged_is : (moment : ℕ) (endpoint : EndpointValue) (records : List Record) (inside table : TableValue) (own slice : List Membership) (before : ℕ) (judged : Option LimitFault) → inside ≡ table → slice ≡ own
    → before ≡ group_count endpoint (filter (is_fresh table.lifetime moment) table.rows) → judged ≡ limit_by_own table.lifetime moment table.in_force endpoint records table.rows before slice
    → limit_by_own inside.lifetime moment inside.in_force endpoint records inside.rows (group_count endpoint (filter (is_fresh inside.lifetime moment) inside.rows)) own ≡ judged
judged_is moment endpoint records inside table own slice before judged view same count is =
    ap (λ (one : TableValue). limit_by_own one.lifetime moment one.in_force endpoint records one.rows (group_count endpoint (filter (is_fresh one.lifetime moment) one.rows)) own) view
    ∙ ap (limit_by_own table.lifetime moment table.in_force endpoint records table.rows (group_count endpoint (filter (is_fresh table.lifetime moment) table.rows))) (sym same)
    ∙ ap (λ (groups : ℕ). limit_by_own table.lifetime moment table.in_force endpoint records table.rows groups slice) (sym count) ∙ sym is

owned_in : (c : goal.After-drop-gone-2) → AreOwn c.self.inside.lifetime_ms c.later-moment.result c.args.endpoint.now c.args.records.now c.self.inside.rows c.in-Ok.after.memberships.items
owned_in c = subst (λ (table : TableValue). AreOwn table.lifetime c.later-moment.result c.args.endpoint.now c.args.records.now table.rows c.in-Ok.after.memberships.items) (sym c.self.view_is) c.in-Ok.ensures.own

put_is : (c : goal.After-drop-gone-2) → AreAfterReport c.self.inside.lifetime_ms c.later-moment.result c.args.endpoint.now c.self.inside.rows c.in-Ok.after.memberships.items c.purge.new.self
put_is c =
    let own = c.in-Ok.after.memberships.items in
    let left = subst (λ (table : TableValue). AreGone table.lifetime c.later-moment.result c.args.endpoint.now table.rows own c.in-Ok.after.gone.items) (sym c.self.view_is) c.in-Ok.ensures.gone in
    subst (AreAfterReport c.self.inside.lifetime_ms c.later-moment.result c.args.endpoint.now c.self.inside.rows own) (sym c.purge.ensures)
    (AreAfterReport-set c.self.inside.lifetime_ms c.later-moment.result c.args.endpoint.now c.args.records.now c.self.inside.rows own c.self.invariant.0.some_time (owned_in c) c.replace.new.self c.in-Ok.after.gone.items
    c.in-Ok-replace.ensures.ascends left
    (λ at. c.in-Ok-replace.ensures.ok at ∙ ap (λ (pairs : List EndpointGroup). if has endpoint_group_order pairs at then None else option_or (membership_in own at) (membership_in c.self.inside.rows at)) c.deref-2.ensures.value))

none_is : (c : goal.After-drop-gone-2) → limit_by_own c.self.inside.lifetime_ms c.later-moment.result c.self.inside.in_force c.args.endpoint.now c.args.records.now c.self.inside.rows
    (group_count c.args.endpoint.now (filter (is_fresh c.self.inside.lifetime_ms c.later-moment.result) c.self.inside.rows)) c.in-Ok.after.memberships.items ≡ None
none_is c =
    judged_is c.later-moment.result c.args.endpoint.now c.args.records.now _ _ c.in-Ok.after.memberships.items _ c.in-Ok.after.before c.limit_passed.result c.self.view_is
    c.deref.ensures.value c.in-Ok.ensures.before c.limit_passed.ensures ∙ c.in_default.is

pub limit_passed-requires-clause-groups : goal.limit_passed-requires-clause-groups
limit_passed-requires-clause-groups c =
    let owned = subst (λ (table : TableValue). AreOwn table.lifetime c.later-moment.result c.args.endpoint.now c.args.records.now table.rows c.in-Ok.after.memberships.items) (sym c.self.view_is) c.in-Ok.ensures.own in
    groups_fit c.self.inside.limits c.self.inside.lifetime_ms c.later-moment.result c.args.endpoint.now c.args.records.now c.self.inside.rows c.in-Ok.after.memberships.items _ c.self.invariant.0
    c.self.invariant.1 (subst IsWithinLimits (sym c.self.view_is) c.requires.within) c.requires.items owned c.deref.ensures.value

pub limit_passed-requires-clause-sources : goal.limit_passed-requires-clause-sources
limit_passed-requires-clause-sources c =
    let owned = subst (λ (table : TableValue). AreOwn table.lifetime c.later-moment.result c.args.endpoint.now c.args.records.now table.rows c.in-Ok.after.memberships.items) (sym c.self.view_is) c.in-Ok.ensures.own in
    sizes_fit c.self.inside.limits c.self.inside.lifetime_ms c.later-moment.result c.args.endpoint.now c.args.records.now c.self.inside.rows c.in-Ok.after.memberships.items _ c.self.invariant.0
    (subst IsWithinLimits (sym c.self.view_is) c.requires.within) c.requires.items owned c.deref.ensures.value

pub returns-in-Some-clause-limit : goal.returns-in-Some-clause-limit
returns-in-Some-clause-limit c settings log holds =
    let owned = subst (λ (table : TableValue). AreOwn table.lifetime c.later-moment.result c.args.endpoint.now c.args.records.now table.rows c.in-Ok.after.memberships.items) (sym c.self.view_is) c.in-Ok.ensures.own in
    let inside = subst (λ (table : TableValue). Holds settings table log) (sym c.self.view_is) holds in
    subst (λ (table : TableValue). limit_passed (in_force_of settings table) log c.args.endpoint.now c.args.records.now c.args.at.now ≡ Some c.in-Some.fault) c.self.view_is
    (passed_is settings _ log c.args.endpoint.now c.args.records.now c.args.at.now c.later-moment.result c.in-Ok.after.memberships.items c.self.invariant.0.some_time c.later-moment.ensures owned inside c.self.inside.in_force c.self.invariant.1
    ∙ judged_is c.later-moment.result c.args.endpoint.now c.args.records.now _ _ c.in-Ok.after.memberships.items _ c.in-Ok.after.before c.limit_passed.result c.self.view_is
    c.deref.ensures.value c.in-Ok.ensures.before c.limit_passed.ensures ∙ c.in-Some.is)

pub invariant_of-self-2 : goal.invariant_of-self-2
invariant_of-self-2 c =
    (c.self.invariant.0, subst (IsAscending membership_order) (sym c.purge.ensures) (IsAscending-filter membership_order (is_fresh c.self.inside.lifetime_ms c.later-moment.result) c.replace.new.self c.in-Ok-replace.ensures.ascends), c.self.invariant.2)

pub returns-clause-passes : goal.returns-clause-passes
returns-clause-passes c settings log holds =
    subst (λ (table : TableValue). limit_passed (in_force_of settings table) log c.args.endpoint.now c.args.records.now c.args.at.now ≡ None) c.self.view_is
    (passed_is settings _ log c.args.endpoint.now c.args.records.now c.args.at.now c.later-moment.result c.in-Ok.after.memberships.items c.self.invariant.0.some_time c.later-moment.ensures (owned_in c)
    (subst (λ (table : TableValue). Holds settings table log) (sym c.self.view_is) holds) c.self.inside.in_force c.self.invariant.1 ∙ none_is c)

pub returns-clause-stands : goal.returns-clause-stands
returns-clause-stands c settings log holds =
    Holds-report settings _ log c.args.endpoint.now c.args.records.now c.args.at.now c.later-moment.result c.in-Ok.after.memberships.items c.self.invariant.0.some_time c.later-moment.ensures (owned_in c)
    (subst (λ (table : TableValue). Holds settings table log) (sym c.self.view_is) holds) c.purge.new.self (put_is c)

pub returns-clause-within : goal.returns-clause-within
returns-clause-within c =
    let owned = owned_in c in
    IsWithin-reported c.self.inside.lifetime_ms c.later-moment.result c.args.endpoint.now c.args.records.now c.self.inside.rows c.in-Ok.after.memberships.items c.self.invariant.0.some_time owned
    c.self.inside.limits c.self.inside.in_force c.purge.new.self c.self.invariant.1 (put_is c) c.self.invariant.2 (subst IsWithinLimits (sym c.self.view_is) c.requires.within)
    (first_limit_is c.self.inside.lifetime_ms c.later-moment.result c.self.inside.in_force c.args.endpoint.now c.args.records.now c.self.inside.rows c.in-Ok.after.memberships.items c.purge.new.self
    c.self.invariant.1 owned.ascends owned.of (put_is c) ∙ none_is c)

pub returns-clause-fits : goal.returns-clause-fits
returns-clause-fits c settings log holds = IsWithin-log settings _ _ (returns-clause-stands c settings log holds) (returns-clause-within c)

pub returns-in-Some-clause-fits_not : goal.returns-in-Some-clause-fits_not
returns-in-Some-clause-fits_not c settings log holds =
    unfit (in_force_of settings c.args.self.now) log c.args.endpoint.now c.args.records.now c.args.at.now c.in-Some.fault (returns-in-Some-clause-limit c settings log holds)
