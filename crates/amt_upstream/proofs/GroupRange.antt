-- The counts of a group that a walk over a range of keys goes over.
use Rattle.std.{proofs.{Common.{◌≡◌, ℕ, nat_lt, Bor, Bool, true, false, cond, ◌&&◌, ◌||◌, List, [], ◌∷◌, ◌++◌, map, Option, Some, None, Result, Ok, Err, IfOk, refl, sym, ap, subst, ◌∙◌}, lemmas.{Cmp.{eq_by_cmp_equiv, tied_itself}, List.{append-nil, map-append, Elements.{filter_map-append}, Kept.{IsStrictlySortedBy-filter}}, Map.{lookup-none, Entries.{lookup-filter-keys, none_past_head}, Keys.{IsDistinct-from_sorted, IsDistinct-tail}}}}, specs.{BTreeMap.{IsOrdered, is_at, Range.{entries_between, range_contains}}, List.{AllByRecursion, IsDistinct, cons_option, filter, filter_map, Sorted.{IsStrictlySortedBy}}, Map.{keys_of, lookup, Iter.{deref_pair}}, Option.{option_to_list, unwrap_or}, Ordering.{eq_by_cmp, is_le, ordering_then}, declared.{cmp.Ordering.{Ordering}, ops.Bound.TheVariants.{Included, Unbounded}}}}
use Rattle.amt_values.{specs.{declared.address.Ip.{Ip, TheVariants.{V4, V6}}, Order.{ip_order}, Ascending.{IsAscending, has}}, proofs.{Orders.{ip_order-exact, ip_order-total}, AscendingLaws.{IsAscending-ascending, IsAscending-filter, has-ascending, has-filter, same_ascending}}}
use Rattle.source_filter.{specs.{Filter.{FilterValue, ascending_sources}, Record.{lists}, declared.mode.Mode.{Mode, TheVariants.{Include}}}, proofs.SourceSets.{listing}}
use Rattle.endpoint_membership.{specs.{EndpointGroup.{same_group}, Membership.{Membership}}, proofs.{KeysTogether.{least_number, others}}}
use Rattle.amt_upstream.{specs.{Counting.{AreInOrder, AreNumbers, Numbers, counted_order, key_order, number}, Looking.{excludes, included_source, is_included}, Upstream.{joined}, declared.count_key.{CountKey.{CountKey}, Counted.{Counted, TheVariants.{Including}}}}, proofs.{JoinedByNumbers.{joined-included}, KeyCounts.{same_key-by}, KeyOrder.{key_on, key_order-total, same_key-is}}}

-- ---- filters that are made of a list

-- a filter of the mode, whose sources were put in order
pub made : {E : Type 0} (result : Result FilterValue E) (mode : Mode) (listed sources : List Ip) → IfOk result (λ filter. filter.mode ≡ mode) → IfOk result (λ filter. filter.sources ≡ ascending_sources listed)
    → ascending_sources listed ≡ sources → IfOk result (λ filter. filter ≡ record { mode = mode; sources = sources })
made (Ok filter) mode listed sources its_mode its_sources are = ap (λ (one : Mode). listing one filter.sources) its_mode ∙ ap (listing mode) (its_sources ∙ are)
made (Err error) mode listed sources its_mode its_sources are = tt

-- a test goes before or after the putting in order
pub ascending-filter : (test : Ip → Bool) (sources : List Ip) → ascending_sources (filter test sources) ≡ filter test (ascending_sources sources)
ascending-filter test sources =
    same_ascending ip_order-total ip_order-exact (ascending_sources (filter test sources)) (filter test (ascending_sources sources)) (IsAscending-ascending ip_order-total (filter test sources))
    (IsAscending-filter ip_order test (ascending_sources sources) (IsAscending-ascending ip_order-total sources))
    (λ source. has-ascending ip_order-total (filter test sources) source ∙ has-filter ip_order-exact test sources source
    ∙ ap (λ (here : Bool). here && test source) (sym (has-ascending ip_order-total sources source)) ∙ sym (has-filter ip_order-exact test (ascending_sources sources) source))

-- ---- the sources that are included

-- the first count of a source that is included
abbrev pub least_included : Ip → CountKey
least_included group = key_on group (Including (V4 0))

abbrev from_least : Ip → CountKey → Bool
from_least group = range_contains key_order (Included (least_included group)) Unbounded

-- the source that is counted as included in the group
abbrev pub included_of : Ip → CountKey × ℕ → Option Ip
included_of group entry = cond (same_group entry.0.group group) (included_source entry.0.counted entry.1) None

-- those of these counts
abbrev pub included_in : Ip → List (CountKey × ℕ) → List Ip
included_in group entries = filter_map (included_of group) entries

listed_by : (positive same : Bool) (number : ℕ) (other source : Ip) (items : List Ip) (found : Option ℕ) → positive ≡ nat_lt 0 number → same ≡ eq_by_cmp ip_order source other → has ip_order items source ≡ nat_lt 0 (unwrap_or found 0)
    → (same ≡ true → found ≡ None) → has ip_order (cons_option (cond positive (Some other) None) items) source ≡ nat_lt 0 (unwrap_or (cond same (Some number) found) 0)
listed_by true true number other source items found counts is rest once = ap (λ (one : Bool). one || has ip_order items source) (sym is) ∙ counts
listed_by true false number other source items found counts is rest once = ap (λ (one : Bool). one || has ip_order items source) (sym is) ∙ rest
listed_by false true number other source items found counts is rest once = rest ∙ ap (λ (one : Option ℕ). nat_lt 0 (unwrap_or one 0)) (once refl) ∙ counts
listed_by false false number other source items found counts is rest once = rest

one_more : (counted : Counted) (here : Bool) (number : ℕ) (source : Ip) (items : List Ip) (found : Option ℕ) → has ip_order items source ≡ nat_lt 0 (unwrap_or found 0)
    → ((here && eq_by_cmp counted_order (Including source) counted) ≡ true → found ≡ None)
    → has ip_order (cons_option (cond here (included_source counted number) None) items) source ≡ nat_lt 0 (unwrap_or (cond (here && eq_by_cmp counted_order (Including source) counted) (Some number) found) 0)
one_more (Including other) true number source items found rest once = listed_by (nat_lt 0 number) (eq_by_cmp ip_order source other) number other source items found refl refl rest once
one_more counted true number source items found rest once = rest
one_more counted false number source items found rest once = rest

module _ (group source : Ip) where
  abbrev at_source : CountKey → Bool
  at_source = is_at (key_order (key_on group (Including source)))

  -- of counts with no key twice
  has-included : (entries : List (CountKey × ℕ)) → IsDistinct (eq_by_cmp key_order) (keys_of entries) → has ip_order (included_in group entries) source ≡ nat_lt 0 (unwrap_or (lookup at_source entries) 0)
  has-included [] distinct = refl
  has-included (entry ∷ rest) distinct =
      let is = same_key-by group entry.0.group (Including source) entry.0.counted
      ∙ ap (λ (here : Bool). here && eq_by_cmp counted_order (Including source) entry.0.counted) ((eq_by_cmp_equiv ip_order-total).symm group entry.0.group) in
      one_more entry.0.counted (same_group entry.0.group group) entry.1 source (included_in group rest) (lookup at_source rest) (has-included rest (IsDistinct-tail (eq_by_cmp key_order) entry.0 (keys_of rest) distinct))
      (λ same. lookup-none at_source rest (none_past_head (eq_by_cmp_equiv key_order-total) (key_on group (Including source)) entry rest distinct (is ∙ same)))
      ∙ ap (λ (here : Bool). nat_lt 0 (unwrap_or (cond here (Some entry.1) (lookup at_source rest)) 0)) (sym is)

keys_by : (keeps : Bool) (entry : CountKey × ℕ) (rest : List (CountKey × ℕ)) → keys_of (cond keeps (entry ∷ rest) rest) ≡ cond keeps (entry.0 ∷ keys_of rest) (keys_of rest)
keys_by true entry rest = refl
keys_by false entry rest = refl

keys_of-filter : (test : CountKey → Bool) (entries : List (CountKey × ℕ)) → keys_of (filter (λ entry. test entry.0) entries) ≡ filter test (keys_of entries)
keys_of-filter test [] = refl
keys_of-filter test (entry ∷ rest) =
    keys_by (test entry.0) entry (filter (λ one. test one.0) rest) ∙ ap (λ (keys : List CountKey). cond (test entry.0) (entry.0 ∷ keys) keys) (keys_of-filter test rest)

none_included : (group : Ip) (entries : List (CountKey × ℕ)) → AllByRecursion (λ key. same_group key.group group ≡ false) (keys_of entries) → included_in group entries ≡ []
none_included group [] apart = refl
none_included group (entry ∷ rest) apart =
    ap (λ (here : Bool). cons_option (cond here (included_source entry.0.counted entry.1) None) (included_in group rest)) apart.0 ∙ none_included group rest apart.1

pub least_source : (source : Ip) → is_le (ip_order (V4 0) source) ≡ true
least_source (V4 number) = least_number number
least_source (V6 number) = refl

module _ (group : Ip) (numbers : Numbers) (ordered : IsOrdered key_order numbers) where
  -- the counts from the least one of the group's included sources on
  abbrev pub included_range : List (CountKey × ℕ)
  included_range = entries_between key_order (Included (least_included group)) Unbounded numbers.entries

  -- from a count of another group on there is none of the group
  pub none_past : (seen rest : List (CountKey × ℕ)) (entry : CountKey × ℕ) → included_range ≡ seen ++ entry ∷ rest → same_group entry.0.group group ≡ false → included_in group (entry ∷ rest) ≡ []
  none_past seen rest entry is other =
      none_included group (entry ∷ rest) (others ip_order counted_order (λ (key : CountKey). key.group) (λ (key : CountKey). key.counted) ip_order-total (least_included group) (keys_of numbers.entries) (keys_of seen) (keys_of rest) entry.0 ordered
      (sym (keys_of-filter (from_least group) numbers.entries) ∙ ap keys_of is ∙ map-append (λ (one : CountKey × ℕ). one.0) seen (entry ∷ rest)) other)

  -- what was seen has all sources that are included, where the rest has none
  pub included_found : (seen rest : List (CountKey × ℕ)) → included_range ≡ seen ++ rest → included_in group rest ≡ [] → (source : Ip) → has ip_order (included_in group seen) source ≡ is_included numbers group source
  included_found seen rest is none source =
      let key = key_on group (Including source) in
      let sorted = subst (IsStrictlySortedBy key_order) (sym (keys_of-filter (from_least group) numbers.entries)) (IsStrictlySortedBy-filter key_order (from_least group) (keys_of numbers.entries) ordered) in
      let inside = ap (λ (order : Ordering). is_le (ordering_then order (ip_order (V4 0) source)) && true) (tied_itself ip_order-total group) ∙ ap (λ (one : Bool). one && true) (least_source source) in
      let all = ap (included_in group) is ∙ filter_map-append (included_of group) seen rest ∙ ap (λ (more : List Ip). included_in group seen ++ more) none ∙ append-nil (included_in group seen) in
      ap (λ (items : List Ip). has ip_order items source) (sym all) ∙ has-included group source included_range (IsDistinct-from_sorted key_order (keys_of included_range) sorted)
      ∙ ap (λ (found : Option ℕ). nat_lt 0 (unwrap_or found 0)) (lookup-filter-keys (at_source group source) (from_least group) true (λ one same. ap (from_least group) (sym (same_key-is key one same)) ∙ inside) numbers.entries)

listed_one : (found : Option Ip) → option_to_list found ≡ cons_option found []
listed_one None = refl
listed_one (Some source) = refl

-- one count of the group more
pub included_push : (group : Ip) (seen : List (Bor CountKey × Bor ℕ)) (item : Bor CountKey × Bor ℕ) (items : List Ip) → same_group item.0.now.group group ≡ true → items ≡ included_in group (map deref_pair seen)
    → items ++ option_to_list (included_source item.0.now.counted item.1.now) ≡ included_in group (map deref_pair (seen ++ item ∷ []))
included_push group seen item items here so_far =
    let before = included_in group (map deref_pair seen) in
    ap (λ (first : List Ip). first ++ option_to_list (included_source item.0.now.counted item.1.now)) so_far ∙ ap (λ (last : List Ip). before ++ last) (listed_one (included_source item.0.now.counted item.1.now))
    ∙ ap (λ (one : Bool). before ++ cons_option (cond one (included_source item.0.now.counted item.1.now) None) []) (sym here)
    ∙ sym (ap (included_in group) (map-append deref_pair seen (item ∷ [])) ∙ filter_map-append (included_of group) (map deref_pair seen) (deref_pair item ∷ []))

-- the sources that are included, as a filter
pub included_filter : {E : Type 0} (rows : List Membership) (tally : Numbers) (group : Ip) (listed : List Ip) (result : Result FilterValue E) → AreNumbers rows tally → AreInOrder rows → excludes tally group ≡ false
    → ((source : Ip) → has ip_order listed source ≡ is_included tally group source) → IfOk result (λ filter. filter.mode ≡ Include) → IfOk result (λ filter. IsAscending ip_order filter.sources)
    → IfOk result (λ filter. (source : Ip) → lists filter.sources source ≡ lists listed source) → IfOk result (λ filter. filter ≡ joined rows group)
included_filter rows tally group listed (Ok filter) numbers in_order none each mode ascends its =
    ap (λ (one : Mode). listing one filter.sources) mode ∙ sym (joined-included rows tally numbers group in_order none filter.sources ascends (λ source. its source ∙ each source))
included_filter rows tally group listed (Err error) numbers in_order none each mode ascends its = tt
