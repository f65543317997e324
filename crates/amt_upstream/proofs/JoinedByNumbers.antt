-- What the joined filter of a group is, by the numbers of the memberships.
use Rattle.std.{proofs.{Common.{◌≡◌, ◌≤◌, ℕ, ◌+◌, ◌==◌, nat_lt, Bool, true, false, not, cond, ◌&&◌, ◌||◌, List, [], ◌∷◌, ◌++◌, map, Option, Some, None, refl, sym, ap, subst, ◌∙◌, arith, zero-add, ⊎_elim}, Math.Bool.{or-false}, lemmas.{Bool.{and_from, and_parts, cases_Bool, lt-ltb, or_left, or_right, Decides.{nat_tests}}, Cmp.{tied_itself}, List.{Sums.{sum_by-cons}}, Map.Keys.{sorted_tail}}}, specs.{List.{AllByRecursion, count_by, filter, list_any}, Option.{option_map}, Ordering.{is_eq}}}
use Rattle.amt_values.{specs.{declared.address.Ip.{Ip}, Order.{ip_order}, EndpointValue.{EndpointValue}, Ascending.{IsAscending, has, intersection}}, proofs.{Orders.{endpoint_order-total, ip_order-exact, ip_order-total}, AscendingLaws.{IsAscending-ascending, IsAscending-filter, has-ascending, has-filter, has-intersection, same_ascending}}}
use Rattle.source_filter.{specs.{Filter.{FilterValue, admits, admits_by, ascending_sources}, Merging.{all_sources, common_sources, exclude_list, exclude_lists, include_lists, intersection_of, merged_by, union_of}, Record.{lists}, declared.mode.Mode.{Mode, TheVariants.{Include, Exclude}}}, proofs.{MergedFilters.{admits-merged}, SourceSets.{listing}}}
use Rattle.endpoint_membership.{specs.{EndpointGroup.{same_endpoint, same_endpoint_group, same_group}, Membership.{Membership, endpoint_group_of, membership_order}, Memberships.{membership_in}, MembershipChanges.{filter_at}}, proofs.{EndpointGroupOrder.{same_endpoint_group-is}, MembershipIn.{none_later}, OwnFilters.{pair}, ReportBounds.{All-at}}}
use Rattle.amt_upstream.{specs.{Counting.{AreInOrder, AreNumbers, Numbers, number}, Looking.{excludes, is_common, is_included, seen, seen_by}, Upstream.{filters_in, joined}, declared.count_key.Counted.{Counted, TheVariants.{Excluders, Excluder, Excluding, Including}}}, proofs.{KeyCounts.{counts, is_counted, times-rows}, KeyOrder.{key_on}}}

-- the mode of a group, by whether some membership excludes
abbrev pub mode_by : Bool → Mode
mode_by true = Exclude
mode_by false = Include

-- the endpoint's filter of the group is in EXCLUDE mode
pub record HasExcluding (rows : List Membership) (endpoint : EndpointValue) (group : Ip) : Type 0 where
  pub filter : FilterValue
  pub found : filter_at rows (pair endpoint group) ≡ Some filter
  pub excludes : filter.mode ≡ Exclude

-- ---- counts of memberships

-- how many memberships what is counted of the group counts
abbrev counted_in : List Membership → Ip → Counted → ℕ
counted_in rows group counted = count_by (is_counted group counted) rows

more_counted : (group : Ip) (counted : Counted) (first : Membership) (rest : List Membership) → counted_in (first ∷ rest) group counted ≡ cond (is_counted group counted first) 1 0 + counted_in rest group counted
more_counted group counted first rest = sum_by-cons (λ (membership : Membership). cond (is_counted group counted membership) 1 0) first rest

map-cond : (here : Bool) (first : Membership) (rest : List Membership)
    → map (λ membership. membership.filter) (cond here (first ∷ rest) rest) ≡ cond here (first.filter ∷ map (λ membership. membership.filter) rest) (map (λ membership. membership.filter) rest)
map-cond true first rest = refl
map-cond false first rest = refl

-- the filters of the group with one membership more
filters_in-more : (group : Ip) (first : Membership) (rest : List Membership) → filters_in group (first ∷ rest) ≡ cond (same_group group first.group) (first.filter ∷ filters_in group rest) (filters_in group rest)
filters_in-more group first rest = map-cond (same_group group first.group) first (filter (λ membership. same_group group membership.group) rest)

-- some of the filters lets the source in
abbrev admitting : Ip → List FilterValue → Bool
admitting source filters = list_any (λ one. admits one source) filters

-- what the numbers say of a source
record IsDecided (any : Bool) (excluders excluding including : ℕ) : Type 0 where
  within : excluding ≤ excluders
  admitted : any ≡ (nat_lt 0 including || nat_lt excluding excluders)

-- one filter more, which is counted among these or not
within_by : (lists excludes : Bool) (excluders excluding : ℕ) → (lists ≡ true → excludes ≡ true) → excluding ≤ excluders → cond lists 1 0 + excluding ≤ cond excludes 1 0 + excluders
within_by true true excluders excluding implies within = omega arith
within_by true false excluders excluding implies within = let wrong = implies refl in cc
within_by false true excluders excluding implies within = omega arith
within_by false false excluders excluding implies within = omega arith

none_more : (number : ℕ) → nat_lt 0 (0 + number) ≡ nat_lt 0 number
none_more number = ap (nat_lt 0) (zero-add number)

both_more : (one other : ℕ) → nat_lt (1 + one) (1 + other) ≡ nat_lt one other
both_more one other = grind (arith, nat_tests)

admitted_by : (includes lists excludes any : Bool) (excluders excluding including : ℕ) → (lists ≡ true → excludes ≡ true) → excluding ≤ excluders → any ≡ (nat_lt 0 including || nat_lt excluding excluders)
    → ((includes || (excludes && not lists)) || any) ≡ (nat_lt 0 (cond includes 1 0 + including) || nat_lt (cond lists 1 0 + excluding) (cond excludes 1 0 + excluders))
admitted_by true lists excludes any excluders excluding including implies within so_far = sym (or_left (nat_lt 0 (1 + including)) _ (lt-ltb 0 (1 + including) (omega arith)))
admitted_by false true true any excluders excluding including implies within so_far =
    so_far ∙ ap (λ (one : Bool). one || nat_lt excluding excluders) (sym (none_more including)) ∙ ap (λ (one : Bool). nat_lt 0 (0 + including) || one) (sym (both_more excluding excluders))
admitted_by false true false any excluders excluding including implies within so_far = let wrong = implies refl in cc
admitted_by false false true any excluders excluding including implies within so_far = sym (or_right (nat_lt 0 (0 + including)) _ (lt-ltb (0 + excluding) (1 + excluders) (omega arith)))
admitted_by false false false any excluders excluding including implies within so_far =
    so_far ∙ ap (λ (one : Bool). one || nat_lt excluding excluders) (sym (none_more including)) ∙ ap (λ (one : ℕ). nat_lt 0 (0 + including) || nat_lt one excluders) (sym (zero-add excluding))
    ∙ ap (λ (one : ℕ). nat_lt 0 (0 + including) || nat_lt (0 + excluding) one) (sym (zero-add excluders))

module _ (group source : Ip) where
  admitted_row : (here : Bool) (endpoint : EndpointValue) (mode : Mode) (sources : List Ip)
      → (here && admits_by mode (lists sources source))
      ≡ ((here && counts (Including source) endpoint mode sources) || ((here && counts Excluders endpoint mode sources) && not (here && counts (Excluding source) endpoint mode sources)))
  admitted_row true endpoint Include sources = sym (or-false (lists sources source))
  admitted_row true endpoint Exclude sources = refl
  admitted_row false endpoint mode sources = refl

  excluding_row : (here : Bool) (endpoint : EndpointValue) (mode : Mode) (sources : List Ip) → (here && counts (Excluding source) endpoint mode sources) ≡ true → (here && counts Excluders endpoint mode sources) ≡ true
  excluding_row true endpoint Include sources is = cc
  excluding_row true endpoint Exclude sources is = refl
  excluding_row false endpoint mode sources is = cc

  any_by : (here : Bool) (first : FilterValue) (rest : List FilterValue) → admitting source (cond here (first ∷ rest) rest) ≡ ((here && admits first source) || admitting source rest)
  any_by true first rest = refl
  any_by false first rest = refl

  decided : (rows : List Membership) → IsDecided (admitting source (filters_in group rows)) (counted_in rows group Excluders) (counted_in rows group (Excluding source)) (counted_in rows group (Including source))
  decided [] = record { within = omega arith; admitted = refl }
  decided (first ∷ rest) =
      let here = same_group group first.group in
      let any = ap (admitting source) (filters_in-more group first rest) ∙ any_by here first.filter (filters_in group rest)
      ∙ ap (λ (one : Bool). one || admitting source (filters_in group rest)) (admitted_row here first.endpoint first.filter.mode first.filter.sources) in
      let implies = excluding_row here first.endpoint first.filter.mode first.filter.sources in
      let so_far = decided rest in
      rw (any, more_counted group Excluders first rest, more_counted group (Excluding source) first rest, more_counted group (Including source) first rest) (record {
        within = within_by (is_counted group (Excluding source) first) (is_counted group Excluders first) (counted_in rest group Excluders) (counted_in rest group (Excluding source)) implies so_far.within;
        admitted = admitted_by (is_counted group (Including source) first) (is_counted group (Excluding source) first) (is_counted group Excluders first) (admitting source (filters_in group rest))
            (counted_in rest group Excluders) (counted_in rest group (Excluding source)) (counted_in rest group (Including source)) implies so_far.within so_far.admitted;
      })

-- ---- modes and lists

-- there is a list
abbrev has_some : List (List Ip) → Bool
has_some [] = false
has_some (first ∷ more) = true

merged-mode : (excluded : List (List Ip)) (included : List Ip) → (merged_by (intersection_of excluded) included).mode ≡ mode_by (has_some excluded)
merged-mode [] included = refl
merged-mode (first ∷ more) included = refl

some_row : (here : Bool) (mode : Mode) (endpoint : EndpointValue) (sources : List Ip) (rest : List FilterValue) (number : ℕ) → has_some (exclude_lists rest) ≡ nat_lt 0 number
    → has_some (exclude_lists (cond here (record { mode = mode; sources = sources } ∷ rest) rest)) ≡ nat_lt 0 (cond (here && counts Excluders endpoint mode sources) 1 0 + number)
some_row true Include endpoint sources rest number so_far = so_far ∙ sym (none_more number)
some_row true Exclude endpoint sources rest number so_far = sym (lt-ltb 0 (1 + number) (omega arith))
some_row false mode endpoint sources rest number so_far = so_far ∙ sym (none_more number)

some_excluded : (group : Ip) (rows : List Membership) → has_some (exclude_lists (filters_in group rows)) ≡ nat_lt 0 (counted_in rows group Excluders)
some_excluded group [] = refl
some_excluded group (first ∷ rest) =
    ap (λ (filters : List FilterValue). has_some (exclude_lists filters)) (filters_in-more group first rest)
    ∙ some_row (same_group group first.group) first.filter.mode first.endpoint first.filter.sources (filters_in group rest) (counted_in rest group Excluders) (some_excluded group rest)
    ∙ ap (nat_lt 0) (sym (more_counted group Excluders first rest))

AreAscending : List (List Ip) → Type 0
AreAscending source_lists = AllByRecursion (λ sources. IsAscending ip_order sources) source_lists

IsAscending-common_sources : (first : List Ip) (more : List (List Ip)) → IsAscending ip_order first → IsAscending ip_order (common_sources first more)
IsAscending-common_sources first [] ascends = ascends
IsAscending-common_sources first (next ∷ more) ascends = IsAscending-common_sources (intersection ip_order first next) more (IsAscending-filter ip_order (λ source. has ip_order next source) first ascends)

IsAscending-merged_by : (excluded : List (List Ip)) (source_lists : List (List Ip)) → AreAscending excluded → IsAscending ip_order (merged_by (intersection_of excluded) (union_of source_lists)).sources
unfolding AreAscending
IsAscending-merged_by [] source_lists each = IsAscending-ascending ip_order-total (all_sources source_lists)
IsAscending-merged_by (first ∷ more) source_lists each =
    IsAscending-filter ip_order (λ source. not (has ip_order (union_of source_lists) source)) (common_sources first more) (IsAscending-common_sources first more each.0)

ascending_row : (here : Bool) (mode : Mode) (sources : List Ip) (rest : List FilterValue) → IsAscending ip_order sources → AreAscending (exclude_lists rest)
    → AreAscending (exclude_lists (cond here (record { mode = mode; sources = sources } ∷ rest) rest))
unfolding AreAscending
ascending_row true Include sources rest ascends each = each
ascending_row true Exclude sources rest ascends each = (ascends, each)
ascending_row false mode sources rest ascends each = each

AreAscending-excluded : (group : Ip) (rows : List Membership) → AreInOrder rows → AreAscending (exclude_lists (filters_in group rows))
unfolding AreAscending
AreAscending-excluded group [] in_order = tt
AreAscending-excluded group (first ∷ rest) in_order =
    subst (λ (filters : List FilterValue). AreAscending (exclude_lists filters)) (sym (filters_in-more group first rest))
    (ascending_row (same_group group first.group) first.filter.mode first.filter.sources (filters_in group rest) in_order.0 (AreAscending-excluded group rest in_order.1))

-- ---- memberships of a group

of_pair : (endpoint : EndpointValue) (group : Ip) (first : Membership) → same_endpoint_group (pair endpoint group) (endpoint_group_of first) ≡ true → same_group group first.group ≡ true
of_pair endpoint group first same = (and_parts (same_endpoint endpoint first.endpoint) (same_group group first.group) (sym (same_endpoint_group-is (pair endpoint group) (endpoint_group_of first)) ∙ same)).1

module _ (any : List FilterValue → Bool) (its : FilterValue) (here : (more : List FilterValue) → any (its ∷ more) ≡ true) (later : (one : FilterValue) (more : List FilterValue) → any more ≡ true → any (one ∷ more) ≡ true) where
  any_found_by : (both same : Bool) (first : Membership) (found : Option Membership) (filters : List FilterValue) → (both ≡ true → same ≡ true) → option_map (λ membership. membership.filter) (cond both (Some first) found) ≡ Some its
      → (option_map (λ membership. membership.filter) found ≡ Some its → any filters ≡ true) → any (cond same (first.filter ∷ filters) filters) ≡ true
  any_found_by true true first found filters implies is rest = let same : first.filter ≡ its = cc in ap (λ (one : FilterValue). any (one ∷ filters)) same ∙ here filters
  any_found_by true false first found filters implies is rest = let wrong = implies refl in cc
  any_found_by false true first found filters implies is rest = later first.filter filters (rest is)
  any_found_by false false first found filters implies is rest = rest is

  -- what some filter of the group decides, the filter of an endpoint decides
  any_found : (endpoint : EndpointValue) (group : Ip) (rows : List Membership) → filter_at rows (pair endpoint group) ≡ Some its → any (filters_in group rows) ≡ true
  any_found endpoint group [] found = cc
  any_found endpoint group (first ∷ rest) found =
      ap any (filters_in-more group first rest)
      ∙ any_found_by (same_endpoint_group (pair endpoint group) (endpoint_group_of first)) (same_group group first.group) first (membership_in rest (pair endpoint group)) (filters_in group rest)
      (of_pair endpoint group first) found (any_found endpoint group rest)

some_later : (mode : Mode) (sources : List Ip) (rest : List (List Ip)) → has_some rest ≡ true → has_some (exclude_list mode sources ++ rest) ≡ true
some_later Include sources rest some = some
some_later Exclude sources rest some = refl

excluding_counts : (here : Bool) (endpoint its : EndpointValue) (mode : Mode) (sources : List Ip) → (here && counts (Excluder endpoint) its mode sources) ≡ true → (here ≡ true) × (same_endpoint endpoint its ≡ true) × (mode ≡ Exclude)
excluding_counts true endpoint its Include sources counted = cc
excluding_counts true endpoint its Exclude sources counted = (refl, counted, refl)
excluding_counts false endpoint its mode sources counted = cc

module _ (endpoint : EndpointValue) (group : Ip) where
  found_here : (first : Membership) (rest : List Membership) → is_counted group (Excluder endpoint) first ≡ true → HasExcluding (first ∷ rest) endpoint group
  found_here first rest counted =
      let parts = excluding_counts (same_group group first.group) endpoint first.endpoint first.filter.mode first.filter.sources counted in
      let same = same_endpoint_group-is (pair endpoint group) (endpoint_group_of first) ∙ and_from (same_endpoint endpoint first.endpoint) (same_group group first.group) parts.1 parts.0 in record {
        filter = first.filter;
        found = ap (λ (here : Bool). option_map (λ (membership : Membership). membership.filter) (cond here (Some first) (membership_in rest (pair endpoint group)))) same;
        excludes = parts.2;
      }

  found_by : (here : Bool) (first : Membership) (found : Option Membership) (its : FilterValue) → option_map (λ membership. membership.filter) found ≡ Some its → (here ≡ true → found ≡ None)
      → option_map (λ membership. membership.filter) (cond here (Some first) found) ≡ Some its
  found_by true first found its is none = let wrong = none refl in cc
  found_by false first found its is none = is

  found_later : (first : Membership) (rest : List Membership) → IsAscending membership_order (first ∷ rest) → HasExcluding rest endpoint group → HasExcluding (first ∷ rest) endpoint group
  found_later first rest ascends later = record {
    filter = later.filter;
    found = found_by (same_endpoint_group (pair endpoint group) (endpoint_group_of first)) first (membership_in rest (pair endpoint group)) later.filter later.found (none_later first rest (pair endpoint group) ascends);
    excludes = later.excludes;
  }

  found_in : (rows : List Membership) → IsAscending membership_order rows → 1 ≤ counted_in rows group (Excluder endpoint) → HasExcluding rows endpoint group
  found_in [] ascends counted = absurd (omega arith)
  found_in (first ∷ rest) ascends counted =
      let whole = more_counted group (Excluder endpoint) first rest in
      ⊎_elim (λ here. found_here first rest here)
      (λ other. found_later first rest ascends (found_in rest (sorted_tail membership_order first rest ascends)
      (let none = ap (λ (one : Bool). cond one 1 0 + counted_in rest group (Excluder endpoint)) other in omega arith)))
      (cases_Bool (is_counted group (Excluder endpoint) first))

own_row : (here : Bool) (endpoint : EndpointValue) (mode : Mode) (sources : List Ip) → (here && counts Excluders endpoint mode sources) ≡ (here && counts (Excluder endpoint) endpoint mode sources)
own_row true endpoint Include sources = refl
own_row true endpoint Exclude sources = sym (ap is_eq (tied_itself endpoint_order-total endpoint))
own_row false endpoint mode sources = refl

-- where no endpoint counts as excluding, none does
none_in : (group : Ip) (rows : List Membership) → ((endpoint : EndpointValue) → counted_in rows group (Excluder endpoint) ≡ 0) → counted_in rows group Excluders ≡ 0
none_in group [] none = refl
none_in group (first ∷ rest) none =
    let here = ap (λ (one : Bool). cond {A = ℕ} one 1 0) (own_row (same_group group first.group) first.endpoint first.filter.mode first.filter.sources) in
    let whole = more_counted group Excluders first rest in
    let own = sym (more_counted group (Excluder first.endpoint) first rest) ∙ none first.endpoint in
    let later = none_in group rest (λ endpoint. let more = sym (more_counted group (Excluder endpoint) first rest) ∙ none endpoint in omega arith) in
    omega arith

-- what an endpoint's filter lists ascends
its_ascends : (its : FilterValue) (found : Option Membership) → option_map (λ membership. membership.filter) found ≡ Some its → ((membership : Membership) → found ≡ Some membership → IsAscending ip_order membership.filter.sources)
    → IsAscending ip_order its.sources
its_ascends its None is ascends = cc
its_ascends its (Some membership) is ascends = let same : membership.filter ≡ its = cc in subst (λ (one : FilterValue). IsAscending ip_order one.sources) same (ascends membership refl)

less_none : (one other : ℕ) → nat_lt 0 other ≡ false → nat_lt one other ≡ false
less_none one other none = grind (arith, nat_tests)

none_admitted : (excluders excluding including : ℕ) → excluding ≤ excluders → not (nat_lt 0 including || nat_lt excluding excluders) ≡ ((excluding == excluders) && (including == 0))
none_admitted excluders excluding including within = grind (arith, nat_tests)

kept_by : (listed common : Bool) → (listed ≡ false → common ≡ false) → common ≡ (listed && common)
kept_by true common none = refl
kept_by false common none = none refl

turned_not : (listed any : Bool) → not listed ≡ any → listed ≡ not any
turned_not true any is = ap not is
turned_not false any is = ap not is

either_way : (one other third : Bool) → one ≡ third → (one && other) ≡ (other && third)
either_way true true third is = is
either_way true false third is = refl
either_way false true third is = is
either_way false false third is = refl

module _ (rows : List Membership) (tally : Numbers) (numbers : AreNumbers rows tally) (group : Ip) (in_order : AreInOrder rows) where
  counted_number : (counted : Counted) → counted_in rows group counted ≡ number tally (key_on group counted)
  counted_number counted = sym (numbers (key_on group counted) ∙ times-rows group counted rows in_order)

  -- an endpoint that is counted among those that exclude has such a filter
  pub excluder-found : IsAscending membership_order rows → (endpoint : EndpointValue) → 1 ≤ number tally (record { group = group; counted = Excluder endpoint })
      → HasExcluding rows endpoint group
  excluder-found ascends endpoint counted = let same = counted_number (Excluder endpoint) in found_in endpoint group rows ascends (omega arith)

  -- where no endpoint is counted so, none excludes
  pub excludes-none : ((endpoint : EndpointValue) → number tally (record { group = group; counted = Excluder endpoint }) ≡ 0) → excludes tally group ≡ false
  excludes-none none = ap (nat_lt 0) (sym (counted_number Excluders) ∙ none_in group rows (λ endpoint. counted_number (Excluder endpoint) ∙ none endpoint))

  -- the numbers say the mode
  pub joined-mode : (joined rows group).mode ≡ mode_by (excludes tally group)
  joined-mode =
      merged-mode (exclude_lists (filters_in group rows)) (union_of (include_lists (filters_in group rows)))
      ∙ ap mode_by (some_excluded group rows ∙ ap (nat_lt 0) (counted_number Excluders))

  pub IsAscending-joined : IsAscending ip_order (joined rows group).sources
  IsAscending-joined = IsAscending-merged_by (exclude_lists (filters_in group rows)) (include_lists (filters_in group rows)) (AreAscending-excluded group rows in_order)

  in_numbers : (source : Ip) → IsDecided (admitting source (filters_in group rows)) (number tally (key_on group Excluders)) (number tally (key_on group (Excluding source))) (number tally (key_on group (Including source)))
  in_numbers source = rw (sym (counted_number Excluders), sym (counted_number (Excluding source)), sym (counted_number (Including source))) (decided group source rows)

  -- a source is let in by numbers
  admits-joined : (source : Ip) → admits (joined rows group) source ≡ (is_included tally group source || nat_lt (number tally (key_on group (Excluding source))) (number tally (key_on group Excluders)))
  admits-joined source = admits-merged (filters_in group rows) (joined rows group) refl source ∙ (in_numbers source).admitted

  -- what an INCLUDE filter lists
  pub has-joined : excludes tally group ≡ false → (source : Ip) → has ip_order (joined rows group).sources source ≡ is_included tally group source
  has-joined none source =
      sym (ap (λ (mode : Mode). admits_by mode (lists (joined rows group).sources source)) (joined-mode ∙ ap mode_by none)) ∙ admits-joined source
      ∙ ap (λ (less : Bool). is_included tally group source || less) (less_none (number tally (key_on group (Excluding source))) (number tally (key_on group Excluders)) none)
      ∙ or-false (is_included tally group source)

  -- where none excludes, the sources that are included, however they were found
  pub joined-included : excludes tally group ≡ false → (sources : List Ip) → IsAscending ip_order sources
      → ((source : Ip) → has ip_order sources source ≡ is_included tally group source) → joined rows group ≡ record { mode = Include; sources = sources }
  joined-included none sources ascends each =
      ap (λ (mode : Mode). listing mode (joined rows group).sources) (joined-mode ∙ ap mode_by none)
      ∙ ap (listing Include) (same_ascending ip_order-total ip_order-exact (joined rows group).sources sources IsAscending-joined ascends (λ source. has-joined none source ∙ sym (each source)))

  module _ (endpoint : EndpointValue) (its : FilterValue) (found : filter_at rows (pair endpoint group) ≡ Some its) (mode : its.mode ≡ Exclude) where
    -- where an endpoint's filter excludes, some membership does
    pub excludes-some : excludes tally group ≡ true
    excludes-some =
        ap (nat_lt 0) (sym (counted_number Excluders)) ∙ sym (some_excluded group rows)
        ∙ any_found (λ (filters : List FilterValue). has_some (exclude_lists filters)) its (λ more. ap (λ (one : Mode). has_some (exclude_list one its.sources ++ exclude_lists more)) mode)
        (λ one more some. some_later one.mode one.sources (exclude_lists more) some) endpoint group rows found

    lacked : (source : Ip) → has ip_order its.sources source ≡ false → is_common tally group source ≡ false
    lacked source lacks =
        sym (none_admitted (number tally (key_on group Excluders)) (number tally (key_on group (Excluding source))) (number tally (key_on group (Including source))) (in_numbers source).within)
        ∙ ap not (sym (in_numbers source).admitted ∙ any_found (admitting source) its (λ more. or_left (admits its source) (admitting source more) (ap (λ (one : Mode). admits_by one (lists its.sources source)) mode ∙ ap not lacks))
        (λ one more some. or_right (admits one source) (admitting source more) some) endpoint group rows found)

    has-common : (source : Ip) → has ip_order (joined rows group).sources source ≡ is_common tally group source
    has-common source =
        turned_not (lists (joined rows group).sources source) _
        (sym (ap (λ (one : Mode). admits_by one (lists (joined rows group).sources source)) (joined-mode ∙ ap mode_by excludes-some)) ∙ admits-joined source)
        ∙ none_admitted (number tally (key_on group Excluders)) (number tally (key_on group (Excluding source))) (number tally (key_on group (Including source))) (in_numbers source).within

    -- by the list of any endpoint that excludes
    pub joined-common : joined rows group ≡ record { mode = Exclude; sources = filter (is_common tally group) its.sources }
    joined-common =
        let ascends = its_ascends its (membership_in rows (pair endpoint group)) found
        (λ membership is. All-at (λ one. IsAscending ip_order one.filter.sources) rows (pair endpoint group) membership in_order is) in
        ap (λ (one : Mode). listing one (joined rows group).sources) (joined-mode ∙ ap mode_by excludes-some)
        ∙ ap (listing Exclude) (same_ascending ip_order-total ip_order-exact (joined rows group).sources (filter (is_common tally group) its.sources) IsAscending-joined
        (IsAscending-filter ip_order (is_common tally group) its.sources ascends)
        (λ source. has-common source ∙ kept_by (has ip_order its.sources source) (is_common tally group source) (lacked source) ∙ sym (has-filter ip_order-exact (is_common tally group) its.sources source)))

  -- what is seen of an INCLUDE filter
  pub seen-included : excludes tally group ≡ false → (sources : List Ip)
      → seen sources (joined rows group) ≡ record { mode = Include; sources = filter (is_included tally group) (ascending_sources sources) }
  seen-included none sources =
      let its = (joined rows group).sources in
      ap (λ (mode : Mode). seen_by mode sources (joined rows group)) (joined-mode ∙ ap mode_by none)
      ∙ ap (listing Include) (same_ascending ip_order-total ip_order-exact (intersection ip_order its sources) (filter (is_included tally group) (ascending_sources sources))
      (IsAscending-filter ip_order (λ source. has ip_order sources source) its IsAscending-joined)
      (IsAscending-filter ip_order (is_included tally group) (ascending_sources sources) (IsAscending-ascending ip_order-total sources))
      (λ source. has-intersection ip_order-exact its sources source ∙ either_way (has ip_order its source) (has ip_order sources source) (is_included tally group source) (has-joined none source)
      ∙ ap (λ (one : Bool). one && is_included tally group source) (sym (has-ascending ip_order-total sources source)) ∙ sym (has-filter ip_order-exact (is_included tally group) (ascending_sources sources) source)))

  -- an EXCLUDE filter is seen whole
  pub seen-excluded : excludes tally group ≡ true → (sources : List Ip) → seen sources (joined rows group) ≡ joined rows group
  seen-excluded some sources = ap (λ (mode : Mode). seen_by mode sources (joined rows group)) (joined-mode ∙ ap mode_by some)
