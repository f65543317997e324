-- What the memberships of an endpoint after its report may be, whatever log the memberships before stood for.
use Rattle.std.{proofs.{Common.{◌≡◌, ℕ, ◌+◌, ◌≤◌, ◌<◌, ◌^◌, Bool, true, false, cond, ◌||◌, if◌then◌else◌, List, [], ◌∷◌, ◌++◌, filter, length, length-append, map, Option, Some, None, is_some, sum_by, true≢false, refl, sym, ap, subst, ◌∙◌, arith}, lemmas.{Bool.{lt-ltb, or_left, or_right}, Cmp.{eq_by_cmp_equiv, tied_itself}, List.{length-map, Sums.{length-filter}}, Map.{Keys.{IsDistinct-from_sorted}, Made.{length-le_from_is_member}, Views.{tells_apart}}}}, specs.{List.{AllByRecursion}, Option.{option_or}, Ordering.{is_eq}}}
use Rattle.amt_values.{specs.{declared.address.Ip.{Ip}, EndpointValue.{EndpointValue}, Ascending.{IsAscending, has}}, proofs.{Orders.{endpoint_order-exact, endpoint_order-total}, AscendingLaws.{IsAscending-filter, has-append}}}
use Rattle.source_filter.specs.{Filter.{FilterValue, filter_after_all, wants_any}, Record.{item_count}, declared.record.Record.{Record}}
use Rattle.endpoint_membership.specs.{Membership.{Membership, is_fresh, membership_order, endpoint_group_of}, declared.limits.Limits.{Limits}, Stored.{only}, Limits.{IsWithin, first_limit, group_count, size, AreAtMost}, EndpointMemberships.{AreGone, AreOwn, filter_or_nothing, membership_of_renewed, renewed_filter_after_all, renewed_filter_of}, Log.{on_group}, EndpointGroup.{EndpointGroup, endpoint_group_order, same_endpoint}, Memberships.{endpoint_groups_of, membership_in}, Table.{AreLawful}}
use Rattle.endpoint_membership.proofs.{ReportBounds.{All-at, given_by, sources-filter_after_all, sum_by-on_group}, EndpointGroupOrder.{endpoint_group_order-total}, MembershipsByLog.{membership_by, on_group-none}, MembershipIn.{has-pairs, All-from_membership_in, IsAscending-pairs, GivesItsEndpointGroup-membership_in, cond_by, membership_in-filter, membership_in-where}, AfterReport.{AreAfterReport, renewed_filter_after_all-is}, AfterEntries.{membership_in-of}, WithinLimits.{IsWithin-filter, IsWithin-report, fits_passed}}

abbrev endpoint_group : EndpointValue → Ip → EndpointGroup
endpoint_group endpoint group = record { endpoint = endpoint; group = group }

abbrev made : EndpointValue → Ip → FilterValue → ℕ → Membership
made endpoint group filter renewed = record { endpoint = endpoint; group = group; filter = filter; renewed = renewed }

-- the membership of an old membership's filter is the old membership
old_row : (endpoint : EndpointValue) (group : Ip) (found : Option Membership) (membership : Membership) → ((one : Membership) → found ≡ Some one → endpoint_group endpoint group ≡ endpoint_group_of one)
    → membership_of_renewed endpoint group (renewed_filter_of found) ≡ Some membership → found ≡ Some membership
old_row endpoint group None membership its row = cc
old_row endpoint group (Some one) membership its row =
    let here = its one refl in
    ap Some (ap (λ (at : EndpointGroup). made at.endpoint at.group one.filter one.renewed) (sym here)
    ∙ membership_by (wants_any one.filter) (made endpoint group one.filter one.renewed) membership row)

parts_by : (passes : Bool) (one membership : Membership) (test : Membership → Bool) → test one ≡ passes → cond passes (Some one) None ≡ Some membership → (Some one ≡ Some membership) × (test membership ≡ true)
parts_by true one membership test is passed = (passed, ap test (sym (membership_by true one membership passed)) ∙ is)
parts_by false one membership test is passed = cc

-- what is found and passes was found, and passes
only_parts : (test : Membership → Bool) (found : Option Membership) (membership : Membership) → only test found ≡ Some membership → (found ≡ Some membership) × (test membership ≡ true)
only_parts test None membership passed = cc
only_parts test (Some one) membership passed = parts_by (test one) one membership test refl passed

-- the memberships that the filters of these memberships make of a pair, old or reported
record IsOwnRow (lifetime moment : ℕ) (endpoint : EndpointValue) (records : List Record) (found : Option Membership) (group : Ip) (membership : Membership) : Type 0 where
  fresh : is_fresh lifetime moment membership ≡ true
  size : length membership.filter.sources ≤ length (filter_or_nothing (renewed_filter_of found)).sources + sum_by (λ (one : Record). length one.sources) (on_group group records)
  old : on_group group records ≡ [] → found ≡ Some membership

own_row_by : (lifetime moment : ℕ) (endpoint : EndpointValue) (records : List Record) (rows : List Membership) (group : Ip) (membership : Membership) (on : List Record) → 0 < lifetime
    → on ≡ on_group group records → membership_of_renewed endpoint group (renewed_filter_after_all moment on (renewed_filter_of (only (is_fresh lifetime moment) (membership_in rows (endpoint_group endpoint group))))) ≡ Some membership
    → IsOwnRow lifetime moment endpoint records (only (is_fresh lifetime moment) (membership_in rows (endpoint_group endpoint group))) group membership
own_row_by lifetime moment endpoint records rows group membership [] some on row =
    let found = membership_in rows (endpoint_group endpoint group) in
    let old = old_row endpoint group (only (is_fresh lifetime moment) found) membership
    (λ one given. sym (GivesItsEndpointGroup-membership_in rows (endpoint_group endpoint group) one (only_parts (is_fresh lifetime moment) found one given).0)) row in
    let sizes = ap (λ (one : Option Membership). length (filter_or_nothing (renewed_filter_of one)).sources) old in record {
      fresh = (only_parts (is_fresh lifetime moment) found membership old).1;
      size = omega arith;
      old = λ none. old;
    }
own_row_by lifetime moment endpoint records rows group membership (first ∷ later) some on row =
    let found = renewed_filter_of (only (is_fresh lifetime moment) (membership_in rows (endpoint_group endpoint group))) in
    let filter = filter_after_all (filter_or_nothing found) (first ∷ later) in
    let is = membership_by (wants_any filter) (made endpoint group filter moment) membership (sym (ap (membership_of_renewed endpoint group) (renewed_filter_after_all-is moment first later found)) ∙ row) in
    let renewed = ap (λ (one : Membership). one.renewed) is in
    let sizes = ap (λ (one : Membership). length one.filter.sources) is in
    let most = sources-filter_after_all (filter_or_nothing found) (first ∷ later) in
    let same = ap (sum_by (λ (one : Record). length one.sources)) on in record {
      fresh = lt-ltb _ _ (omega arith);
      size = omega arith;
      old = λ none. let wrong = on ∙ none in absurd cc;
    }

only_by : (test : Membership → Bool) (found : Option Membership) → ((membership : Membership) → found ≡ Some membership → test membership ≡ true) → only test found ≡ found
only_by test None passes = refl
only_by test (Some membership) passes = rw (passes membership refl) refl

renewed_size : (limits : Limits) (test : Membership → Bool) (rows : List Membership) (at : EndpointGroup) → IsWithin limits rows → (found : Option Membership) → found ≡ only test (membership_in rows at)
    → length (filter_or_nothing (renewed_filter_of found)).sources ≤ limits.sources
renewed_size limits test rows at within None is = omega arith
renewed_size limits test rows at within (Some membership) is =
    All-at (λ (one : Membership). size one ≤ limits.sources) rows at membership within.sources (only_parts test (membership_in rows at) membership (sym is)).0

either_by : (reported was : Bool) → (reported ≡ false → was ≡ true) → (was || reported) ≡ true
either_by true was old = or_right was true refl
either_by false was old = or_left was false (old refl)

-- what is left of a pair of the endpoint at a moment, where its memberships were replaced
left_own : (test : Membership → Bool) (here : Bool) (own old : Option Membership) → (here ≡ true → own ≡ None) → (own ≡ None → here ≡ false → only test old ≡ None) → only test (if here then None else option_or own old) ≡ only test own
left_own test true own old none all = ap (only test) (sym (none refl))
left_own test false None old none all = all refl refl
left_own test false (Some membership) old none all = refl

not_gone : (here of : Bool) → of ≡ false → (here ≡ true → of ≡ true) → here ≡ false
not_gone true of apart its = absurd (true≢false (sym (its refl) ∙ apart))
not_gone false of apart its = refl

-- what is left of a pair of another endpoint
left_other : (test : Membership → Bool) (here : Bool) (own old : Option Membership) → here ≡ false → own ≡ None → only test (if here then None else option_or own old) ≡ only test old
left_other test here own old out none = rw (out, none) refl

module _ (lifetime moment : ℕ) (endpoint : EndpointValue) (records : List Record) (rows own : List Membership) (some : 0 < lifetime) (owned : AreOwn lifetime moment endpoint records rows own) where
  abbrev test : Membership → Bool
  test = is_fresh lifetime moment

  its_pair : (at : EndpointGroup) (membership : Membership) → membership_in own at ≡ Some membership → at ≡ endpoint_group endpoint at.group
  its_pair at membership found =
      let here = sym (GivesItsEndpointGroup-membership_in own at membership found) in
      let same = All-at (λ (one : Membership). same_endpoint one.endpoint endpoint ≡ true) own at membership owned.of found in
      ap (λ (one : EndpointValue). endpoint_group one at.group) (ap (λ (one : EndpointGroup). one.endpoint) here ∙ tells_apart endpoint_order-exact membership.endpoint endpoint same)

  own_row : (at : EndpointGroup) (membership : Membership) → membership_in own at ≡ Some membership
      → IsOwnRow lifetime moment endpoint records (only test (membership_in rows (endpoint_group endpoint at.group))) at.group membership
  own_row at membership found =
      own_row_by lifetime moment endpoint records rows at.group membership (on_group at.group records) some refl (sym (owned.each at.group) ∙ ap (membership_in own) (sym (its_pair at membership found)) ∙ found)

  -- no membership of the endpoint has more sources than an old one and the report together
  pub own_sizes : (limits : Limits) → IsWithin limits rows → AllByRecursion (λ membership. size membership ≤ limits.sources + item_count records) own
  own_sizes limits within =
      All-from_membership_in (λ (membership : Membership). size membership ≤ limits.sources + item_count records) own owned.ascends
      (λ at membership found.
      let here = endpoint_group endpoint at.group in
      let before = renewed_size limits test rows here within (only test (membership_in rows here)) refl in
      let added = sum_by-on_group at.group records in
      let most = (own_row at membership found).size in
      omega arith)

  -- each pair of the endpoint had a membership before or is reported
  pub own_few : IsAscending membership_order rows → length own ≤ group_count endpoint rows + length records
  own_few ascends =
      let mine = filter (λ (one : Membership). same_endpoint one.endpoint endpoint) rows in
      let was = map endpoint_group_of mine in
      let reported = endpoint_groups_of endpoint records in
      let fewer = length-le_from_is_member (eq_by_cmp_equiv endpoint_group_order-total) (map endpoint_group_of own) (was ++ reported)
      (IsDistinct-from_sorted endpoint_group_order (map endpoint_group_of own) (IsAscending-pairs own owned.ascends))
      (λ at listed. has-append endpoint_group_order was reported at ∙ given_by ((has endpoint_group_order was at || has endpoint_group_order reported at) ≡ true) (membership_in own at) (sym (has-pairs own at) ∙ listed)
      (λ membership found. either_by (has endpoint_group_order reported at) (has endpoint_group_order was at)
      (λ quiet. let exact = its_pair at membership found in
      let here : same_endpoint at.endpoint endpoint ≡ true = ap (λ (one : EndpointGroup). same_endpoint one.endpoint endpoint) exact ∙ ap is_eq (tied_itself endpoint_order-total endpoint) in
      has-pairs mine at ∙ ap is_some (membership_in-where (λ (one : EndpointGroup). same_endpoint one.endpoint endpoint) rows at ascends
      ∙ ap (λ (same : Bool). cond same (membership_in rows at) None) here ∙ ap (membership_in rows) exact
      ∙ (only_parts test (membership_in rows (endpoint_group endpoint at.group)) membership ((own_row at membership found).old (on_group-none endpoint records at here quiet))).0)))) in
      let before : length was ≡ group_count endpoint rows = length-map mine endpoint_group_of ∙ length-filter (λ (one : Membership). same_endpoint one.endpoint endpoint) rows in
      let named = length-map records (λ (one : Record). endpoint_group endpoint one.group) in
      omega (arith, length-append was reported, length-map own endpoint_group_of)

  -- memberships that were set pair by pair are those after the report, once what has expired is gone
  pub AreAfterReport-set : (now : List Membership) (gone : List EndpointGroup) → IsAscending membership_order now → AreGone lifetime moment endpoint rows own gone
      → ((at : EndpointGroup) → membership_in now at ≡ (if has endpoint_group_order gone at then None else option_or (membership_in own at) (membership_in rows at)))
      → AreAfterReport lifetime moment endpoint rows own (filter test now)
  AreAfterReport-set now gone ascend left each = record {
    ascend = IsAscending-filter membership_order test now ascend;
    each = λ at. membership_in-filter test now at ascend ∙ ap (only test) (each at)
        ∙ sym (cond_by (same_endpoint at.endpoint endpoint) (membership_in own at) (only test (membership_in rows at))
        (only test (if has endpoint_group_order gone at then None else option_or (membership_in own at) (membership_in rows at)))
        (λ same. let exact = ap (λ (one : EndpointValue). endpoint_group one at.group) (tells_apart endpoint_order-exact at.endpoint endpoint same) in
        sym (left_own test (has endpoint_group_order gone at) (membership_in own at) (membership_in rows at) (left.none at)
        (λ none out. ap (λ (one : EndpointGroup). only test (membership_in rows one)) exact ∙ left.all at.group (ap (membership_in own) (sym exact) ∙ none) (ap (has endpoint_group_order gone) (sym exact) ∙ out))
        ∙ only_by test (membership_in own at) (λ membership found. (own_row at membership found).fresh)))
        (λ apart. sym (left_other test (has endpoint_group_order gone at) (membership_in own at) (membership_in rows at)
        (not_gone (has endpoint_group_order gone at) (same_endpoint at.endpoint endpoint) apart (left.of at)) (membership_in-of endpoint own at owned.ascends owned.of apart))));
  }

  -- memberships within the limits stay so by a report that passes none of those in force
  pub IsWithin-reported : (given limits : Limits) (after : List Membership) → IsAscending membership_order rows → AreAfterReport lifetime moment endpoint rows own after → AreAtMost given limits → IsWithin given rows
      → first_limit limits endpoint records (filter test rows) after ≡ None → IsWithin given after
  IsWithin-reported given limits after ascends are less within none =
      IsWithin-report given limits endpoint records (filter test rows) after (IsAscending-filter membership_order test rows ascends) are.ascend less (IsWithin-filter given test rows within)
      (fits_passed limits endpoint records (filter test rows) after none)
      (λ at apart. are.each at ∙ ap (λ (here : Bool). if here then membership_in own at else only test (membership_in rows at)) apart ∙ sym (membership_in-filter test rows at ascends))
      (λ group membership silent found. membership_in-filter test rows (endpoint_group endpoint group) ascends
      ∙ (own_row (endpoint_group endpoint group) membership
      (ap (λ (here : Bool). if here then membership_in own (endpoint_group endpoint group) else only test (membership_in rows (endpoint_group endpoint group))) (sym (ap is_eq (tied_itself endpoint_order-total endpoint)))
      ∙ sym (are.each (endpoint_group endpoint group)) ∙ found)).old silent)

All-below : (bound most : ℕ) (rows : List Membership) → bound < most → AllByRecursion (λ membership. size membership ≤ bound) rows → AllByRecursion (λ membership. size membership < most) rows
All-below bound most [] less each = tt
All-below bound most (membership ∷ rest) less each = (let first = each.0 in omega arith, All-below bound most rest less each.1)

-- sizes and numbers that fit 32 bits, from lawful limits and a report of so many items
pub sizes_fit : (limits : Limits) (lifetime moment : ℕ) (endpoint : EndpointValue) (records : List Record) (rows own slice : List Membership) → AreLawful limits lifetime → IsWithin limits rows → item_count records ≤ 16777216
    → AreOwn lifetime moment endpoint records rows own → slice ≡ own → AllByRecursion (λ membership. size membership < 2 ^ 32) slice
sizes_fit limits lifetime moment endpoint records rows own slice lawful within items owned same =
    let most = lawful.sources in
    subst (AllByRecursion (λ (membership : Membership). size membership < 2 ^ 32)) (sym same)
    (All-below (limits.sources + item_count records) (2 ^ 32) own (omega arith) (own_sizes lifetime moment endpoint records rows own lawful.some_time owned limits within))

pub groups_fit : (limits : Limits) (lifetime moment : ℕ) (endpoint : EndpointValue) (records : List Record) (rows own slice : List Membership) → AreLawful limits lifetime → IsAscending membership_order rows → IsWithin limits rows
    → item_count records ≤ 16777216 → AreOwn lifetime moment endpoint records rows own → slice ≡ own → length slice < 2 ^ 32
groups_fit limits lifetime moment endpoint records rows own slice lawful ascends within items owned same =
    let few = own_few lifetime moment endpoint records rows own lawful.some_time owned ascends in
    let most = within.groups endpoint in
    let bound = lawful.groups in
    let long = ap (λ (all : List Membership). length all) same in
    omega arith
