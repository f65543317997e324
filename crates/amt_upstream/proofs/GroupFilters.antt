-- The filters of a group by what each endpoint wants of it.
use Rattle.std.{proofs.{Common.{◌≡◌, Bool, true, false, cond, ◌||◌, List, [], ◌∷◌, ◌++◌, filter, map, Option, Some, refl, sym, ap, subst, ◌∙◌, ⊎_elim}, lemmas.{Bool.{or_cases, or_left, or_parts, or_right, true≢false}, Map.Views.{tells_apart}}}, specs.{List.{AllByRecursion, list_any, Sorted.{IsStrictlySortedBy}}, Option.{option_map}}}
use Rattle.amt_values.{specs.{declared.address.Ip.{Ip}, Order.{ip_order}, Ascending.{IsAscending, has}}, proofs.{Orders.{ip_order-total}, AscendingLaws.{IsAscending-ascending, has-append, has-ascending}}}
use Rattle.source_filter.specs.{Filter.{FilterValue}, Merging.{all_sources, exclude_list, exclude_lists, include_list, include_lists, intersection_of, merged, merged_by, union_of}, Record.{lists}, declared.mode.Mode.{Mode, TheVariants.{Include, Exclude}}}
use Rattle.endpoint_membership.specs.{EndpointGroup.{EndpointGroup, endpoint_group_order, same_endpoint_group, same_group}, Membership.{Membership, endpoint_group_of, membership_order}, MembershipChanges.{filter_at}, Memberships.{membership_in}}
use Rattle.endpoint_membership.proofs.{EndpointGroupOrder.{endpoint_group_order-exact}, MembershipIn.{GivesItsEndpointGroup-membership_in, All-from_membership_in, IsAscending-pairs, same_where}, SetAt.{IsAscending-from_pairs}}
use Rattle.amt_upstream.specs.{Looking.{sources_if}, Upstream.{filters_in}}

-- the memberships of the group
abbrev pub on_group : Ip → List Membership → List Membership
on_group group rows = filter (λ membership. same_group group membership.group) rows

-- a membership of the pair with this filter, whenever it was renewed
abbrev with_filter : EndpointGroup → FilterValue → Membership
with_filter at wanted = record { endpoint = at.endpoint; group = at.group; filter = wanted; renewed = 0 }

abbrev undated : Membership → Membership
undated membership = with_filter (endpoint_group_of membership) membership.filter

found_by : (here : Bool) (at : EndpointGroup) (first : Membership) (later : Option Membership) (undated_later : Option Membership) → (here ≡ true → at ≡ endpoint_group_of first)
    → undated_later ≡ option_map (with_filter at) (option_map (λ membership. membership.filter) later)
    → cond here (Some (undated first)) undated_later ≡ option_map (with_filter at) (option_map (λ membership. membership.filter) (cond here (Some first) later))
found_by true at first later undated_later same rest = ap (λ (one : EndpointGroup). Some (with_filter one first.filter)) (sym (same refl))
found_by false at first later undated_later same rest = rest

membership_in-undated : (rows : List Membership) (at : EndpointGroup) → membership_in (map undated rows) at ≡ option_map (with_filter at) (filter_at rows at)
membership_in-undated [] at = refl
membership_in-undated (first ∷ rest) at =
    found_by (same_endpoint_group at (endpoint_group_of first)) at first (membership_in rest at) (membership_in (map undated rest) at)
    (tells_apart endpoint_group_order-exact at (endpoint_group_of first)) (membership_in-undated rest at)

pairs-undated : (rows : List Membership) → map endpoint_group_of rows ≡ map endpoint_group_of (map undated rows)
pairs-undated [] = refl
pairs-undated (first ∷ rest) = ap (λ (more : List EndpointGroup). endpoint_group_of first ∷ more) (pairs-undated rest)

IsAscending-undated : (rows : List Membership) → IsAscending membership_order rows → IsAscending membership_order (map undated rows)
IsAscending-undated rows ascends =
    IsAscending-from_pairs (map undated rows) (subst (IsStrictlySortedBy endpoint_group_order) (pairs-undated rows) (IsAscending-pairs rows ascends))

kept_by : (here : Bool) (first : Membership) (rest undated_rest : List Membership) → map (λ (one : Membership). one.filter) undated_rest ≡ map (λ (one : Membership). one.filter) rest
    → map (λ (one : Membership). one.filter) (cond here (undated first ∷ undated_rest) undated_rest) ≡ map (λ (one : Membership). one.filter) (cond here (first ∷ rest) rest)
kept_by true first rest undated_rest same = ap (λ (more : List FilterValue). first.filter ∷ more) same
kept_by false first rest undated_rest same = same

filters_in-undated : (group : Ip) (rows : List Membership) → filters_in group (map undated rows) ≡ filters_in group rows
filters_in-undated group [] = refl
filters_in-undated group (first ∷ rest) = kept_by (same_group group first.group) first (on_group group rest) (on_group group (map undated rest)) (filters_in-undated group rest)

-- the filters of a group are the same where each endpoint wants the same of it
pub filters_in-same : (group : Ip) (one other : List Membership) → IsAscending membership_order one → IsAscending membership_order other
    → ((at : EndpointGroup) → same_group group at.group ≡ true → filter_at one at ≡ filter_at other at) → filters_in group one ≡ filters_in group other
filters_in-same group one other first second same =
    sym (filters_in-undated group one)
    ∙ ap (map (λ (membership : Membership). membership.filter)) (same_where (λ at. same_group group at.group) (map undated one) (map undated other) (IsAscending-undated one first) (IsAscending-undated other second)
    (λ at here. membership_in-undated one at ∙ ap (option_map (with_filter at)) (same at here) ∙ sym (membership_in-undated other at)))
    ∙ filters_in-undated group other

-- a group in which no membership is has no filter
pub filters_in-none : (group : Ip) (rows : List Membership) → has ip_order (map (λ membership. membership.group) rows) group ≡ false → filters_in group rows ≡ []
filters_in-none group [] none = refl
filters_in-none group (first ∷ rest) none =
    let parts = or_parts (same_group group first.group) (has ip_order (map (λ (membership : Membership). membership.group) rest) group) none in
    rw parts.0 (filters_in-none group rest parts.1)

-- two tests are one where each follows from the other
both_follow : (one other : Bool) → (one ≡ true → other ≡ true) → (other ≡ true → one ≡ true) → one ≡ other
both_follow true other there back = sym (there refl)
both_follow false true there back = back refl
both_follow false false there back = refl

-- some filter lists the source
abbrev pub some_lists : Ip → List FilterValue → Bool
some_lists source filters = list_any (λ wanted. lists wanted.sources source) filters

module _ (group source : Ip) where
  -- the pair's filter lists it
  abbrev pub lists_at : List Membership → EndpointGroup → Bool
  lists_at rows at = lists (sources_if (filter_at rows at)) source

  found_by_pair : (here ours : Bool) (first : Membership) (rest : List Membership) (later : Option Membership) → (here ≡ true → ours ≡ true)
      → (lists (sources_if (option_map (λ membership. membership.filter) later)) source ≡ true → some_lists source (map (λ membership. membership.filter) rest) ≡ true)
      → lists (sources_if (option_map (λ membership. membership.filter) (cond here (Some first) later))) source ≡ true
      → some_lists source (map (λ membership. membership.filter) (cond ours (first ∷ rest) rest)) ≡ true
  found_by_pair true true first rest later same more is = or_left (lists first.filter.sources source) _ is
  found_by_pair true false first rest later same more is = let never = same refl in cc
  found_by_pair false true first rest later same more is = or_right (lists first.filter.sources source) _ (more is)
  found_by_pair false false first rest later same more is = more is

  some_lists-at : (rows : List Membership) (at : EndpointGroup) → same_group group at.group ≡ true → lists_at rows at ≡ true → some_lists source (filters_in group rows) ≡ true
  some_lists-at [] at here is = is
  some_lists-at (first ∷ rest) at here is =
      found_by_pair (same_endpoint_group at (endpoint_group_of first)) (same_group group first.group) first (on_group group rest) (membership_in rest at)
      (λ same. ap (λ (one : EndpointGroup). same_group group one.group) (sym (tells_apart endpoint_group_order-exact at (endpoint_group_of first) same)) ∙ here)
      (some_lists-at rest at here) is

  given_by : {X : Type 0} (ours : Bool) (first : Membership) (rest : List Membership) → (ours ≡ true → lists first.filter.sources source ≡ true → X)
      → (some_lists source (map (λ membership. membership.filter) rest) ≡ true → X) → some_lists source (map (λ membership. membership.filter) (cond ours (first ∷ rest) rest)) ≡ true → X
  given_by true first rest here later is = ⊎_elim (here refl) later (or_cases (lists first.filter.sources source) _ is)
  given_by false first rest here later is = later is

  -- what follows from each membership that lists the source, follows where some filter does
  given : {X : Type 0} (rows : List Membership) → AllByRecursion (λ membership. same_group group membership.group ≡ true → lists membership.filter.sources source ≡ true → X) rows
      → some_lists source (filters_in group rows) ≡ true → X
  given [] each is = absurd (true≢false (sym is))
  given (first ∷ rest) each is = given_by (same_group group first.group) first (on_group group rest) each.0 (given rest each.1) is

  follows : (one other : List Membership) → IsAscending membership_order one → ((at : EndpointGroup) → same_group group at.group ≡ true → lists_at one at ≡ lists_at other at)
      → some_lists source (filters_in group one) ≡ true → some_lists source (filters_in group other) ≡ true
  follows one other ascends same =
      given one
      (All-from_membership_in (λ membership. same_group group membership.group ≡ true → lists membership.filter.sources source ≡ true → some_lists source (filters_in group other) ≡ true) one ascends
      (λ at membership found ours listed.
      let here = ap (λ (pair : EndpointGroup). same_group group pair.group) (sym (GivesItsEndpointGroup-membership_in one at membership found)) ∙ ours in
      some_lists-at other at here (sym (same at here) ∙ ap (λ (one : Option Membership). lists (sources_if (option_map (λ row. row.filter) one)) source) found ∙ listed)))

  -- some filter lists the source in the one where it does in the other, if that is so of each pair
  pub some_lists-same : (one other : List Membership) → IsAscending membership_order one → IsAscending membership_order other
      → ((at : EndpointGroup) → same_group group at.group ≡ true → lists_at one at ≡ lists_at other at) → some_lists source (filters_in group one) ≡ some_lists source (filters_in group other)
  some_lists-same one other first second same =
      both_follow (some_lists source (filters_in group one)) (some_lists source (filters_in group other)) (follows one other first same) (follows other one second (λ at here. sym (same at here)))

listed_by : (mode : Mode) (sources : List Ip) (rest : List FilterValue) (source : Ip) (more : Bool) → exclude_list mode sources ++ exclude_lists rest ≡ []
    → (exclude_lists rest ≡ [] → has ip_order (all_sources (include_lists rest)) source ≡ more)
    → has ip_order (all_sources (include_list mode sources ++ include_lists rest)) source ≡ (lists sources source || more)
listed_by Include sources rest source more none later =
    has-append ip_order sources (all_sources (include_lists rest)) source ∙ ap (λ (t : Bool). lists sources source || t) (later none)
listed_by Exclude sources rest source more none later = absurd cc

listed : (filters : List FilterValue) (source : Ip) → exclude_lists filters ≡ [] → has ip_order (all_sources (include_lists filters)) source ≡ some_lists source filters
listed [] source none = refl
listed (first ∷ rest) source none = listed_by first.mode first.sources rest source (some_lists source rest) none (listed rest source)

-- a merged INCLUDE filter lists, ascending, what some filter lists
pub record IsUnion (filters : List FilterValue) (sources : List Ip) : Type 0 where
  pub ascends : IsAscending ip_order sources
  pub each : (source : Ip) → lists sources source ≡ some_lists source filters

union_by : (filters : List FilterValue) (excluded : List (List Ip)) → exclude_lists filters ≡ excluded → (merged_by (intersection_of excluded) (union_of (include_lists filters))).mode ≡ Include
    → IsUnion filters (merged_by (intersection_of excluded) (union_of (include_lists filters))).sources
union_by filters [] none include = record {
  ascends = IsAscending-ascending ip_order-total (all_sources (include_lists filters));
  each = λ source. has-ascending ip_order-total (all_sources (include_lists filters)) source ∙ listed filters source none;
}
union_by filters (first ∷ more) some include = absurd cc

pub IsUnion-merged : (filters : List FilterValue) → (merged filters).mode ≡ Include → IsUnion filters (merged filters).sources
IsUnion-merged filters include = union_by filters (exclude_lists filters) refl include
