-- When memberships stay within the limits: after a filter, and after a report that passes no limit.
use Rattle.std.{proofs.{Common.{◌≡◌, ℕ, ◌≤◌, Bool, true, false, cond, ltb, ◌&&◌, ◌||◌, List, [], ◌∷◌, length, filter, Option, Some, None, refl, sym, ap, ◌∙◌, subst, arith, inl, inr, max}, lemmas.{Bool.{cases_Bool, le-ltb, ltb-false}, List.Sums.{length-filter}, Map.Views.{tells_apart}, Cmp.{tied_itself}}}, specs.{List.{AllByRecursion, find, list_any}, Ordering.{is_eq}}}
use Rattle.amt_values.{specs.{declared.address.Ip.{Ip}, EndpointValue.{EndpointValue}, Ascending.{IsAscending}}, proofs.Orders.{endpoint_order-exact, endpoint_order-total}}
use Rattle.source_filter.specs.declared.record.Record.{Record}
use Rattle.endpoint_membership.specs.{Limits.{IsWithin, first_limit, group_count, is_too_wide, live_count, size, Fits, is_reported, raised, size_at, size_of, AreAtMost}, EndpointMemberships.{limit_by}, Log.{on_group}, EndpointGroup.{EndpointGroup, same_endpoint, same_group}, Membership.{membership_order, Membership, endpoint_group_of}, Memberships.{membership_in}, declared.limits.Limits.{Limits}}
use Rattle.endpoint_membership.proofs.{ReportBounds.{All-at}, CountedLive.{group_count-filter, live_count-filter}, LimitByOwn.{first_limit-by}, MembershipIn.{All-from_membership_in, GivesItsEndpointGroup-membership_in, same_where}}

membership_all : (P : Membership → Type 0) (passes : Bool) (membership : Membership) (some : List Membership) → P membership → AllByRecursion P some → AllByRecursion P (cond passes (membership ∷ some) some)
membership_all P true membership some here rest = (here, rest)
membership_all P false membership some here rest = rest

All-filter : (P : Membership → Type 0) (test : Membership → Bool) (rows : List Membership) → AllByRecursion P rows → AllByRecursion P (filter test rows)
All-filter P test [] each = tt
All-filter P test (membership ∷ rest) each = membership_all P (test membership) membership (filter test rest) each.0 (All-filter P test rest each.1)

pub IsWithin-filter : (limits : Limits) (test : Membership → Bool) (rows : List Membership) → IsWithin limits rows → IsWithin limits (filter test rows)
IsWithin-filter limits test rows within = record {
  endpoints = omega (arith, within.endpoints, live_count-filter test rows);
  groups = λ endpoint. omega (arith, within.groups endpoint, group_count-filter test endpoint rows);
  sources = All-filter (λ (membership : Membership). size membership ≤ limits.sources) test rows within.sources;
}

-- what is known of memberships that pass no limit
record PassesNone (limits : Limits) (groups endpoints : ℕ) (found : Option Membership) : Type 0 where
  none_wide : found ≡ None
  few_groups : groups ≤ limits.groups
  few_endpoints : endpoints ≤ limits.endpoints

PassesNone_by : (limits : Limits) (groups endpoints : ℕ) (found : Option Membership) (many full : Bool) → ltb limits.groups groups ≡ many → ltb limits.endpoints endpoints ≡ full
    → limit_by limits groups endpoints found ≡ None → PassesNone limits groups endpoints found
PassesNone_by limits groups endpoints (Some membership) many full first second none = cc
PassesNone_by limits groups endpoints None true full first second none = let some = rw first at none in cc
PassesNone_by limits groups endpoints None false true first second none = let some = rw (first, second) at none in cc
PassesNone_by limits groups endpoints None false false first second none =
    record { none_wide = refl; few_groups = ltb-false limits.groups groups first; few_endpoints = ltb-false limits.endpoints endpoints second }

fails_first : (here : Bool) (membership : Membership) (later : Option Membership) → cond here (Some membership) later ≡ None → (here ≡ false) × (later ≡ None)
fails_first true membership later none = cc
fails_first false membership later none = (refl, none)

-- no membership passes a test by which none is found
All-fail : (test : Membership → Bool) (rows : List Membership) → find test rows ≡ None → AllByRecursion (λ membership. test membership ≡ false) rows
All-fail test [] none = tt
All-fail test (membership ∷ rest) none =
    let both = fails_first (test membership) membership (find test rest) none in (both.0, All-fail test rest both.1)

on_first : (here : Bool) (one : Record) (some : List Record) (any : Bool) → (any ≡ false → some ≡ []) → (here || any) ≡ false → cond here (one ∷ some) some ≡ []
on_first true one some any more none = cc
on_first false one some any more none = more none

-- a group on which no record is found has no records
pub on_none : (group : Ip) (records : List Record) → list_any (λ one. same_group group one.group) records ≡ false → on_group group records ≡ []
on_none group [] none = refl
on_none group (first ∷ later) none =
    on_first (same_group group first.group) first (on_group group later) (list_any (λ (one : Record). same_group group one.group) later) (on_none group later) none

-- an endpoint whose pairs have the memberships that they had has as many groups as it had
same_count : (endpoint other : EndpointValue) (rows after : List Membership) → IsAscending membership_order rows → IsAscending membership_order after → same_endpoint other endpoint ≡ false
    → ((endpoint_group : EndpointGroup) → same_endpoint endpoint_group.endpoint endpoint ≡ false → membership_in after endpoint_group ≡ membership_in rows endpoint_group) → group_count other after ≡ group_count other rows
same_count endpoint other rows after first second apart same =
    let test = λ (membership : Membership). same_endpoint membership.endpoint other in
    sym (length-filter test after)
    ∙ ap (λ (all : List Membership). length all) (same_where (λ (one : EndpointGroup). same_endpoint one.endpoint other) after rows second first
    (λ at here. same at (ap (λ (one : EndpointValue). same_endpoint one endpoint) (tells_apart endpoint_order-exact at.endpoint other here) ∙ apart)))
    ∙ length-filter test rows

abbrev at : EndpointValue → Ip → EndpointGroup
at endpoint group = record { endpoint = endpoint; group = group }

at_endpoint : (endpoint : EndpointValue) (endpoint_group : EndpointGroup) → same_endpoint endpoint_group.endpoint endpoint ≡ true → endpoint_group ≡ at endpoint endpoint_group.group
at_endpoint endpoint endpoint_group same = ap (λ (one : EndpointValue). at one endpoint_group.group) (tells_apart endpoint_order-exact endpoint_group.endpoint endpoint same)

-- a test by which none passes finds none
none_found : (test : Membership → Bool) (rows : List Membership) → AllByRecursion (λ membership. test membership ≡ false) rows → find test rows ≡ None
none_found test [] each = refl
none_found test (membership ∷ rest) each = rw each.0 (none_found test rest each.1)

size_by : (found : Option Membership) (most : ℕ) → ((membership : Membership) → found ≡ Some membership → size membership ≤ most) → size_of found ≤ most
size_by None most each = omega arith
size_by (Some membership) most each = each membership refl

slim_by : (here reported wide : Bool) → (here ≡ true → reported ≡ true → wide ≡ false) → ((here && reported) && wide) ≡ false
slim_by true true wide slim = slim refl refl
slim_by true false wide slim = refl
slim_by false reported wide slim = refl

narrow_by : (here reported wide : Bool) → here ≡ true → reported ≡ true → ((here && reported) && wide) ≡ false → wide ≡ false
narrow_by true true wide first second none = none
narrow_by true false wide first second none = cc
narrow_by false reported wide first second none = cc

module _ (limits : Limits) (endpoint : EndpointValue) (records : List Record) (without rows : List Membership) where
  -- no membership of a report that fits is too wide
  slim : Fits limits endpoint records without rows → (place : EndpointGroup) (membership : Membership) → membership_in rows place ≡ Some membership → is_too_wide limits endpoint records without membership ≡ false
  slim fits place membership found =
      let its = endpoint_group_of membership in
      let most = max limits.sources (size_at without its) in
      slim_by (same_endpoint membership.endpoint endpoint) (is_reported records membership.group) (ltb most (size membership)) (λ same reported.
      le-ltb most (size membership) (subst (λ (one : Option Membership). size_of one ≤ most) (ap (membership_in rows) (GivesItsEndpointGroup-membership_in rows place membership found) ∙ found)
      (subst (λ (one : EndpointGroup). size_at rows one ≤ max limits.sources (size_at without one)) (sym (at_endpoint endpoint its same)) (fits.sources membership.group reported))))

  -- a report that fits passes no limit
  pub none_passed : IsAscending membership_order rows → Fits limits endpoint records without rows → first_limit limits endpoint records without rows ≡ None
  none_passed ascends fits =
      let most = raised limits (group_count endpoint without) (live_count without) in
      first_limit-by limits endpoint records without rows
      ∙ ap (limit_by most (group_count endpoint rows) (live_count rows)) (none_found (is_too_wide limits endpoint records without) rows
      (All-from_membership_in (λ (membership : Membership). is_too_wide limits endpoint records without membership ≡ false) rows ascends (slim fits)))
      ∙ rw (le-ltb most.groups (group_count endpoint rows) fits.groups, le-ltb most.endpoints (live_count rows) fits.endpoints) refl

  -- and one that passes none fits
  pub fits_passed : first_limit limits endpoint records without rows ≡ None → Fits limits endpoint records without rows
  fits_passed none =
      let most = raised limits (group_count endpoint without) (live_count without) in
      let test = is_too_wide limits endpoint records without in
      let passes = PassesNone_by most (group_count endpoint rows) (live_count rows) (find test rows) (ltb most.groups (group_count endpoint rows)) (ltb most.endpoints (live_count rows)) refl refl
      (sym (first_limit-by limits endpoint records without rows) ∙ none) in record {
        sources = λ group reported.
            let here = at endpoint group in
            let wide = max limits.sources (size_at without here) in
            size_by (membership_in rows here) wide (λ membership found.
            let fails = All-at (λ (one : Membership). test one ≡ false) rows here membership (All-fail test rows passes.none_wide) found in
            ltb-false wide (size membership) (narrow_by (same_endpoint endpoint endpoint) (is_reported records group) (ltb wide (size membership)) (ap is_eq (tied_itself endpoint_order-total endpoint)) reported
            (subst (λ (one : EndpointGroup). ((same_endpoint one.endpoint endpoint && is_reported records one.group) && ltb (max limits.sources (size_at without one)) (size membership)) ≡ false)
            (GivesItsEndpointGroup-membership_in rows here membership found) fails)));
        groups = passes.few_groups;
        endpoints = passes.few_endpoints;
      }

-- a report that fits limits no greater than these leaves memberships within these
pub IsWithin-report : (given limits : Limits) (endpoint : EndpointValue) (records : List Record) (rows after : List Membership) → IsAscending membership_order rows → IsAscending membership_order after
    → AreAtMost given limits → IsWithin given rows → Fits limits endpoint records rows after
    → ((endpoint_group : EndpointGroup) → same_endpoint endpoint_group.endpoint endpoint ≡ false → membership_in after endpoint_group ≡ membership_in rows endpoint_group)
    → ((group : Ip) (membership : Membership) → on_group group records ≡ [] → membership_in after (record { endpoint = endpoint; group = group }) ≡ Some membership
    → membership_in rows (record { endpoint = endpoint; group = group }) ≡ Some membership)
    → IsWithin given after
IsWithin-report given limits endpoint records rows after first second less within fits others silent = record {
  endpoints = omega (arith, fits.endpoints, less.endpoints, within.endpoints);
  groups = λ other. elim (cases_Bool (same_endpoint other endpoint)) [
    | inl same ↦ subst (λ (one : EndpointValue). group_count one after ≤ given.groups) (sym (tells_apart endpoint_order-exact other endpoint same)) (omega (arith, fits.groups, less.groups, within.groups endpoint))
    | inr apart ↦ subst (λ (groups : ℕ). groups ≤ given.groups) (sym (same_count endpoint other rows after first second apart others)) (within.groups other)
  ];
  sources = All-from_membership_in (λ (membership : Membership). size membership ≤ given.sources) after second (λ place membership found.
      let old : (one : EndpointGroup) (each : Membership) → membership_in rows one ≡ Some each → size each ≤ given.sources =
      λ one each. All-at (λ (any : Membership). size any ≤ given.sources) rows one each within.sources in
      elim (cases_Bool (same_endpoint place.endpoint endpoint)) [
        | inr away ↦ old place membership (sym (others place away) ∙ found)
        | inl here ↦
            let made = at_endpoint endpoint place here in
            let own = at endpoint place.group in
            let there : membership_in after own ≡ Some membership = sym (ap (membership_in after) made) ∙ found in
            elim (cases_Bool (is_reported records place.group)) [
              | inr quiet ↦ old own membership (silent place.group membership (on_none place.group records quiet) there)
              | inl reported ↦
                  let most = subst (λ (one : Option Membership). size_of one ≤ max limits.sources (size_at rows own)) there (fits.sources place.group reported) in
                  omega (arith, most, less.sources, size_by (membership_in rows own) given.sources (old own))
            ]
      ]);
}
