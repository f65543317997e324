-- The changes that filters afterwards make.
use Rattle.std.proofs.{Common.{◌≡◌, Bool, true, false, cond, List, [], ◌∷◌, map, filter, Option, Some, None, unwrap_or, get_or, refl, sym, ap, subst, ◌∙◌}, lemmas.{Bool.{not-false, not-true, or_parts, Decides.{Decides-and, Decides-like}}, Cmp.{on_total, then_total, tied_itself}, List.Elements.{All-contains_itself, All-filter, All-map, filter_passes}, Map.{Views.{btree_map_get_iff, tells_apart}}, Slice.Eq.{slice_eq-Decides}}}
use Rattle.std.specs.{Bool.{Decides}, BTreeMap.{BTreeMap, IsOrdered, is_at}, Cmp.{IsTotalOrder, Lexicographic.{pointwise}}, List.{AllByRecursion, Contains, Sorted.{IsStrictlySortedBy}}, Map.{keys_of, lookup}, Ordering.{is_eq}, declared.cmp.Ordering.TheVariants.{Less}}
use Rattle.amt_values.{specs.{declared.address.Ip.{Ip}, Ascending.{IsAscending}}, proofs.Orders.{endpoint_order-total, ip_order-exact, ip_order-total}}
use Rattle.source_filter.specs.{Filter.{FilterValue}, declared.mode.Mode.{Mode, TheVariants.{Include, Exclude}}}
use Rattle.endpoint_membership.specs.{EndpointGroup.{EndpointGroup, same_endpoint_group, same_group}, Filters.{group_member_order, member_of, pair_of}, FiltersAfter.{AreFiltersAfter, change_at, is_changed, same_filter, same_filters, same_mode}, Membership.{Membership}, MembershipChanges.{AreChanges, IsChange, change_order, changes_pair, filter_at}, declared.{keys.GroupMember.{GroupMember}, membership_change.MembershipChange.{MembershipChange}}}
use Rattle.endpoint_membership.proofs.{GroupMembers.{group_member_order-exact}, KeptFilters.{same_member}, MembershipIn.{same_endpoint_group-exact}}

-- an entry of the filters afterwards
abbrev Entry : Type 0
Entry = GroupMember × Option FilterValue

-- the changes of those that aren't what they were before
abbrev pub changes_of : List Membership → List Entry → List MembershipChange
changes_of before entries = map (change_at before) (filter (is_changed before) entries)

same_mode-decides : (one other : Mode) → Decides (same_mode one other) (one ≡ other)
same_mode-decides Include Include = (λ is. refl, λ is. refl)
same_mode-decides Exclude Exclude = (λ is. refl, λ is. refl)
same_mode-decides Include Exclude = (λ is. cc, λ is. cc)
same_mode-decides Exclude Include = (λ is. cc, λ is. cc)

same_group-decides : (one other : Ip) → Decides (same_group one other) (one ≡ other)
same_group-decides one other = (tells_apart ip_order-exact one other, λ is. subst (λ (next : Ip). same_group one next ≡ true) is (ap is_eq (tied_itself ip_order-total one)))

same_filter-decides : (one other : FilterValue) → Decides (same_filter one other) (one ≡ other)
same_filter-decides one other =
    Decides-like (same_filter one other) (λ both. ap (λ (mode : Mode). record one { mode = mode }) both.0 ∙ ap (λ (sources : List Ip). record other { sources = sources }) both.1)
    (λ is. (ap (λ (filter : FilterValue). filter.mode) is, ap (λ (filter : FilterValue). filter.sources) is))
    (Decides-and (same_mode one.mode other.mode) (pointwise same_group one.sources other.sources) (same_mode-decides one.mode other.mode)
    (slice_eq-Decides same_group-decides one.sources other.sources (pointwise same_group one.sources other.sources) refl))

same_filters-decides : (one other : Option FilterValue) → Decides (same_filters one other) (one ≡ other)
same_filters-decides None None = (λ is. refl, λ is. refl)
same_filters-decides None (Some other) = (λ is. cc, λ is. cc)
same_filters-decides (Some one) None = (λ is. cc, λ is. cc)
same_filters-decides (Some one) (Some other) =
    let both = same_filter-decides one other in (λ is. ap (λ (filter : FilterValue). Some filter) (both.0 is), λ is. both.1 (ap (λ (filter : Option FilterValue). unwrap_or filter one) is))

-- ---- the changes ascend

less_by : (changed : Bool) (before : List Membership) (first entry : Entry) (kept : List Entry) → group_member_order first.0 entry.0 ≡ Less → AllByRecursion (λ change. change_order (change_at before first) change ≡ Less) (map (change_at before) kept)
    → AllByRecursion (λ change. change_order (change_at before first) change ≡ Less) (map (change_at before) (cond changed (entry ∷ kept) kept))
less_by true before first entry kept less rest = (less, rest)
less_by false before first entry kept less rest = rest

less_each : (before : List Membership) (first : Entry) (entries : List Entry) → AllByRecursion (λ member. group_member_order first.0 member ≡ Less) (keys_of entries)
    → AllByRecursion (λ change. change_order (change_at before first) change ≡ Less) (changes_of before entries)
less_each before first [] less = tt
less_each before first (entry ∷ rest) less = less_by (is_changed before entry) before first entry (filter (is_changed before) rest) less.0 (less_each before first rest less.1)

ascend_by : (changed : Bool) (before : List Membership) (entry : Entry) (kept : List Entry) → AllByRecursion (λ change. change_order (change_at before entry) change ≡ Less) (map (change_at before) kept)
    → IsAscending change_order (map (change_at before) kept) → IsAscending change_order (map (change_at before) (cond changed (entry ∷ kept) kept))
unfolding IsStrictlySortedBy
ascend_by true before entry kept less rest = (less, rest)
ascend_by false before entry kept less rest = rest

ascend : (before : List Membership) (entries : List Entry) → IsStrictlySortedBy group_member_order (keys_of entries) → IsAscending change_order (changes_of before entries)
unfolding IsStrictlySortedBy
ascend before [] ordered = tt
ascend before (entry ∷ rest) ordered =
    ascend_by (is_changed before entry) before entry (filter (is_changed before) rest) (less_each before entry rest ordered.0) (ascend before rest ordered.1)

-- ---- what isn't among them is what it was

kept_by : (here changed : Bool) (before : List Membership) (entry : Entry) (kept : List Entry) (at : EndpointGroup) (later : Option (Option FilterValue)) → same_endpoint_group at (pair_of entry.0) ≡ here → is_changed before entry ≡ changed
    → changes_pair (map (change_at before) (cond changed (entry ∷ kept) kept)) at ≡ false
    → (changes_pair (map (change_at before) kept) at ≡ false → unwrap_or later (filter_at before at) ≡ filter_at before at) → unwrap_or (cond here (Some entry.1) later) (filter_at before at) ≡ filter_at before at
kept_by true true before entry kept at later same is none rest =
    let apart = (or_parts (same_endpoint_group at (pair_of entry.0)) (changes_pair (map (change_at before) kept) at) none).0 in cc
kept_by true false before entry kept at later same is none rest =
    sym ((same_filters-decides (filter_at before (pair_of entry.0)) entry.1).0 (not-false _ is)) ∙ ap (filter_at before) (sym (same_endpoint_group-exact at (pair_of entry.0) same))
kept_by false true before entry kept at later same is none rest = rest (or_parts (same_endpoint_group at (pair_of entry.0)) (changes_pair (map (change_at before) kept) at) none).1
kept_by false false before entry kept at later same is none rest = rest none

kept : (before : List Membership) (entries : List Entry) (at : EndpointGroup) → changes_pair (changes_of before entries) at ≡ false
    → unwrap_or (lookup (is_at (group_member_order (member_of at))) entries) (filter_at before at) ≡ filter_at before at
kept before [] at none = refl
kept before (entry ∷ rest) at none =
    kept_by (is_at (group_member_order (member_of at)) entry.0) (is_changed before entry) before entry (filter (is_changed before) rest) at (lookup (is_at (group_member_order (member_of at))) rest)
    (sym (same_member at (pair_of entry.0))) refl none (kept before rest at)

group_member_order-total : IsTotalOrder group_member_order
group_member_order-total = then_total (on_total (λ (member : GroupMember). member.group) ip_order-total) (on_total (λ (member : GroupMember). member.endpoint) endpoint_order-total)

-- one that isn't what it was is a change
its_change : (before after : List Membership) (filters : BTreeMap GroupMember (Option FilterValue)) (entry : Entry) → IsOrdered group_member_order filters → AreFiltersAfter before after filters → Contains filters.entries entry → is_changed before entry ≡ true
    → IsChange before after (change_at before entry)
its_change before after filters entry ordered are there changed =
    let at = pair_of entry.0 in
    let its = (btree_map_get_iff group_member_order-total group_member_order-exact filters ordered entry.0 entry.1).1 there in record {
      was = refl;
      is = sym (ap (λ (found : Option (Option FilterValue)). unwrap_or found (filter_at before at)) its) ∙ are at;
      differ = λ is. let apart = not-true (same_filters (filter_at before at) entry.1) changed in let same = (same_filters-decides (filter_at before at) entry.1).1 is in cc;
    }

-- filters afterwards make the changes of those that aren't what they were before
pub AreChanges-of : (before after : List Membership) (filters : BTreeMap GroupMember (Option FilterValue)) → IsOrdered group_member_order filters → AreFiltersAfter before after filters → AreChanges before after (changes_of before filters.entries)
AreChanges-of before after filters ordered are =
    let entries = filters.entries in
    let changed = is_changed before in record {
      ascend = ascend before entries ordered;
      each = All-map (IsChange before after) (change_at before) (filter changed entries) (λ place entry within.
          its_change before after filters (get_or (filter changed entries) place entry) ordered are (All-filter changed (Contains entries) entries (All-contains_itself entries) place entry within)
          (filter_passes changed entries place entry within));
      others = λ at none. sym (kept before entries at none) ∙ are at;
    }
