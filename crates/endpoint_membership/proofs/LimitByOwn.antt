-- The limits that a report's memberships pass, by the memberships of its endpoint and the number of other live endpoints.
use Rattle.std.{proofs.{Common.{◌≡◌, ℕ, ◌+◌, nat_lt, Bool, true, false, cond, not, ◌&&◌, if◌then◌else◌, List, [], ◌∷◌, filter, length, Option, Some, refl, sym, ap, ◌∙◌, max, is_some, zero, suc, ◌==◌, arith, ne_eqb}, lemmas.List.Sums.{length-filter}}, specs.List.{find}}
use Rattle.amt_values.{specs.{EndpointValue.{EndpointValue}, Ascending.{IsAscending}, Conditions.{first_holding, first_of}}, proofs.{AscendingLaws.{IsAscending-filter}, ConditionLaws.{first_holding-append, first_holding-map}}}
use Rattle.source_filter.specs.declared.record.Record.{Record}
use Rattle.endpoint_membership.specs.{Membership.{Membership, is_fresh, membership_order, endpoint_group_of}, declared.limits.{LimitFault.{LimitFault}, Limits.{Limits}}, Stored.{is_counted, is_of_another, only}, EndpointGroup.{EndpointGroup, same_endpoint}, EndpointMemberships.{limit_by, limit_by_own, AreOf, is_over, width_fault, live_with}, Limits.{count_conditions, first_limit, group_count, is_too_wide, live_count, width_conditions, size, is_reported, raised, size_at}, Memberships.{membership_in}, Parts.{some_unless_zero}}
use Rattle.endpoint_membership.proofs.{AfterReport.{AreAfterReport}, CountedLive.{counted_are, live_count-besides}, MembershipIn.{filter_all, membership_in-filter, same_where}, CountedParts.{is_live-count}}

-- the first limit in the order of the conditions is that of the first membership that is too wide, or of the numbers
pub first_limit-by : (limits : Limits) (endpoint : EndpointValue) (records : List Record) (without rows : List Membership)
    → first_limit limits endpoint records without rows
    ≡ limit_by (raised limits (group_count endpoint without) (live_count without)) (group_count endpoint rows) (live_count rows) (find (is_too_wide limits endpoint records without) rows)
first_limit-by limits endpoint records without rows =
    let test = is_too_wide limits endpoint records without in
    let counts = count_conditions (raised limits (group_count endpoint without) (live_count without)) (group_count endpoint rows) (live_count rows) in
    first_holding-append (width_conditions test rows) counts
    ∙ ap (λ (wide : Option LimitFault). first_of wide (first_holding counts)) (first_holding-map test width_fault rows)

-- the memberships of the endpoint
abbrev pub is_of : EndpointValue → Membership → Bool
is_of endpoint membership = same_endpoint membership.endpoint endpoint

step_by : (groups : ℕ) → ◌≡◌ {A = ℕ} (if is_some (some_unless_zero groups) then 1 else 0) (if groups == 0 then 0 else 1)
step_by zero = refl
step_by (suc groups) = rw (ne_eqb (suc groups) 0 (λ none. omega (arith, none))) refl

-- the live endpoints are the others, and the endpoint where it has some group
live_count-with : (endpoint : EndpointValue) (rows : List Membership) → live_count rows ≡ live_with (live_count (filter (is_of_another endpoint) rows)) (group_count endpoint rows)
live_count-with endpoint rows =
    let others = live_count (filter (is_of_another endpoint) rows) in
    live_count-besides endpoint rows
    ∙ ap (λ (step : ℕ). others + step) (ap (λ (live : Bool). if live then 1 else 0) (is_live-count endpoint rows) ∙ step_by (group_count endpoint rows))

wide_by : (here reported wide : Bool) (test : Membership → Bool) (membership : Membership) (found : Option Membership) (own : List Membership) → test membership ≡ (wide && reported) → found ≡ find test own
    → cond ((here && reported) && wide) (Some membership) found ≡ find test (cond here (membership ∷ own) own)
wide_by false reported wide test membership found own is more = more
wide_by true true true test membership found own is more = rw is refl
wide_by true true false test membership found own is more = rw is more
wide_by true false true test membership found own is more = rw is more
wide_by true false false test membership found own is more = rw is more

-- a reported group that is too wide is among the endpoint's memberships
find-own : (limits : Limits) (endpoint : EndpointValue) (records : List Record) (without rows : List Membership)
    → find (is_too_wide limits endpoint records without) rows ≡ find (is_over limits.sources without records) (filter (is_of endpoint) rows)
find-own limits endpoint records without [] = refl
find-own limits endpoint records without (membership ∷ rest) =
    wide_by (is_of endpoint membership) (is_reported records membership.group) (nat_lt (max limits.sources (size_at without (endpoint_group_of membership))) (size membership)) (is_over limits.sources without records) membership
    (find (is_too_wide limits endpoint records without) rest) (filter (is_of endpoint) rest) refl (find-own limits endpoint records without rest)

pub first_limit_is : (lifetime moment : ℕ) (limits : Limits) (endpoint : EndpointValue) (records : List Record) (rows own after : List Membership) → IsAscending membership_order rows → IsAscending membership_order own → AreOf endpoint own
    → AreAfterReport lifetime moment endpoint rows own after
    → first_limit limits endpoint records (filter (is_fresh lifetime moment) rows) after
    ≡ limit_by_own lifetime moment limits endpoint records rows (group_count endpoint (filter (is_fresh lifetime moment) rows)) own
first_limit_is lifetime moment limits endpoint records rows own after ascends ascend of are =
    let fresh = filter (is_fresh lifetime moment) rows in
    let before = group_count endpoint fresh in
    let mine : filter (is_of endpoint) after ≡ own = same_where (λ (one : EndpointGroup). same_endpoint one.endpoint endpoint) after own are.ascend ascend
    (λ at same. are.each at ∙ ap (λ (here : Bool). cond here (membership_in own at) (only (is_fresh lifetime moment) (membership_in rows at))) same) ∙ filter_all (is_of endpoint) own of in
    let others : filter (is_of_another endpoint) after ≡ filter (is_of_another endpoint) fresh =
    same_where (λ (one : EndpointGroup). not (same_endpoint one.endpoint endpoint)) after fresh are.ascend (IsAscending-filter membership_order (is_fresh lifetime moment) rows ascends)
    (λ at apart. are.each at ∙ other_by (same_endpoint at.endpoint endpoint) (membership_in own at) (only (is_fresh lifetime moment) (membership_in rows at)) apart
    ∙ sym (membership_in-filter (is_fresh lifetime moment) rows at ascends)) in
    let counted = sym (counted_are lifetime moment endpoint rows) in
    let alive = live_count (filter (is_counted lifetime moment endpoint) rows) in
    let groups : group_count endpoint after ≡ length own = sym (length-filter (is_of endpoint) after) ∙ ap (λ (all : List Membership). length all) mine in
    let live : live_count after ≡ live_with alive (length own) = live_count-with endpoint after
    ∙ ap (λ (rest : List Membership). live_with (live_count rest) (group_count endpoint after)) (others ∙ counted) ∙ ap (live_with alive) groups in
    let was : live_count fresh ≡ live_with alive before = live_count-with endpoint fresh ∙ ap (λ (rest : List Membership). live_with (live_count rest) before) counted in
    let found = find (is_over limits.sources fresh records) own in
    first_limit-by limits endpoint records fresh after
    ∙ ap (limit_by (raised limits before (live_count fresh)) (group_count endpoint after) (live_count after)) (find-own limits endpoint records fresh after ∙ ap (find (is_over limits.sources fresh records)) mine)
    ∙ ap (λ (count : ℕ). limit_by (raised limits before count) (group_count endpoint after) (live_count after) found) was
    ∙ ap (λ (count : ℕ). limit_by (raised limits before (live_with alive before)) count (live_count after) found) groups
    ∙ ap (λ (count : ℕ). limit_by (raised limits before (live_with alive before)) (length own) count found) live
  where
    other_by : (here : Bool) (one other : Option Membership) → not here ≡ true → cond here one other ≡ other
    other_by true one other apart = cc
    other_by false one other apart = refl
