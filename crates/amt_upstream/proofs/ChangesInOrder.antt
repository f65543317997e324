-- Changes that ascend: their groups, the changes of one group, and what a search for a pair tells.
use Rattle.std.{proofs.{Common.{◌≡◌, ℕ, ◌+◌, ◌<◌, ◌≤◌, Bool, true, false, ◌||◌, List, [], ◌∷◌, ◌++◌, filter, map, length, get_or, take, drop, All, None, Err, is_lt, IsSorted, refl, sym, ap, subst, ◌∙◌, arith, append-nil}, Math.Bool.{and_comm}, lemmas.{Cmp.{on_total, then_total}, List.{get_or-drop, get_or-map, get_or-take, length-drop, length-map, length-take, take-append-drop, Elements.{All-get_or, All-head, All-tail, filter-append, recursion_from_All}, Sorted.{IsNonDecreasingBy-drop, IsPartitionedBy-leb, searchable_from_sorted}}, Map.Keys.{Less-from_sorted}}}, specs.{Cmp.{IsTotalOrder, tied_then}, List.{AllWithin, Sorted.{IsBinarySearchResult, IsNonDecreasingBy, IsPartitionPoint, IsPartitionedBy, IsSearchInRange, IsSortedBy}}, Ordering.{eq_by_cmp, is_eq, is_le, ordering_index, ordering_reverse, ordering_then}, declared.cmp.Ordering.{Ordering, TheVariants.{Less, Equal, Greater}}}}
use Rattle.std.proofs.Math.Dec.{leb}
use Rattle.amt_values.{specs.{declared.address.Ip.{Ip}, Order.{endpoint_order, ip_order}, Ascending.{IsAscending, has}}, proofs.{Orders.{both_tied, endpoint_order-total, ip_order-total}, Sorting.{has-searched}}}
use Rattle.endpoint_membership.{specs.{EndpointGroup.{EndpointGroup, same_endpoint, same_group}, Membership.{Membership}, MembershipChanges.{AreChanges, IsChange, change_order, changed_pair, changes_pair, filter_at}, declared.membership_change.MembershipChange.{MembershipChange}}, proofs.{EndpointGroupOrder.{endpoint_group_order-exact, same_endpoint_group-is}, KeysTogether.{filter-none}}}
use Rattle.amt_upstream.specs.Looking.{changes_on_group}

-- ---- a search for a pair

-- where a change of the pair would stand
abbrev pub place_of : EndpointGroup → MembershipChange
place_of at = record { group = at.group; endpoint = at.endpoint; before = None; after = None }

change_order-total : IsTotalOrder change_order
change_order-total = then_total (on_total (λ (change : MembershipChange). change.group) ip_order-total) (on_total (λ (change : MembershipChange). change.endpoint) endpoint_order-total)

changes_pair-place : (at : EndpointGroup) (changes : List MembershipChange) → changes_pair changes at ≡ has change_order changes (place_of at)
changes_pair-place at [] = refl
changes_pair-place at (first ∷ rest) =
    ap (λ here. here || changes_pair rest at)
    (same_endpoint_group-is at (changed_pair first) ∙ and_comm (same_endpoint at.endpoint first.endpoint) (same_group at.group first.group) ∙ tied_then (ip_order at.group first.group) (endpoint_order at.endpoint first.endpoint))
    ∙ ap (λ later. eq_by_cmp change_order (place_of at) first || later) (changes_pair-place at rest)

module _ (before after : List Membership) (changes : List MembershipChange) (are : AreChanges before after changes) (at : EndpointGroup) where
  -- a change that is found in its place
  pub after-found : (i : ℕ) (change : MembershipChange) → i < length changes → change_order (get_or changes i change) (place_of at) ≡ Equal
      → (get_or changes i change).after ≡ filter_at after at
  after-found i change below same =
      let found = get_or changes i change in
      let both = both_tied (ip_order found.group at.group) (endpoint_order found.endpoint at.endpoint) same in
      (All-get_or (IsChange before after) changes i change below are.each).is
      ∙ ap (filter_at after) (endpoint_group_order-exact (changed_pair found) at (rw (both.1, both.0) refl))

  -- no change is
  pub after-none : (i : ℕ) → IsSearchInRange (Err i) (length changes) → IsBinarySearchResult (λ change. change_order change (place_of at)) changes (Err i)
      → filter_at before at ≡ filter_at after at
  after-none i below found = are.others at (changes_pair-place at changes ∙ sym (has-searched change_order-total changes (place_of at) (Err i) are.ascend below found))

-- ---- their groups

no_lower : (first second : Ordering) → ordering_then first second ≡ Less → is_lt (ordering_reverse first) ≡ false
no_lower Less second less = refl
no_lower Equal second less = refl
no_lower Greater second less = cc

-- no group is below the one before it
pub groups_sorted : (changes : List MembershipChange) → IsAscending change_order changes → IsSortedBy (λ one other. is_lt (ip_order one.group other.group)) changes
groups_sorted changes ascends k d from below =
    let one = get_or changes k d in
    let next = get_or changes (k + 1) d in
    ap is_lt (ip_order-total.antisymm next.group one.group)
    ∙ no_lower (ip_order one.group next.group) (endpoint_order one.endpoint next.endpoint) (Less-from_sorted change_order changes k (k + 1) d ascends (omega arith) below)

pub IsSorted-groups : (changes : List MembershipChange) → IsAscending change_order changes → IsSorted ip_order (map (λ change. change.group) changes)
IsSorted-groups changes ascends k d from below =
    let group = λ (change : MembershipChange). change.group in
    let some : MembershipChange = record { group = d; endpoint = record { address = 0; port = 0 }; before = None; after = None } in
    let fewer : k + 1 < length changes = omega (arith, below, length-map changes group) in
    rw (get_or-map group changes (k + 1) some d fewer, get_or-map group changes k some d (omega arith)) (groups_sorted changes ascends k some from fewer)

-- ---- the changes of a group

module _ {X : Type 0} where
  All-front : (P : X → Type 0) (xs : List X) (n : ℕ) → AllWithin P xs 0 n → All P (take n xs)
  All-front P xs n each k d below =
      let fewer : k < n = omega (arith, below, length-take n xs) in
      subst P (sym (get_or-take n xs k d fewer)) (each k d (omega arith) fewer)

  All-back : (P : X → Type 0) (xs : List X) (n : ℕ) → AllWithin P xs n (length xs) → All P (drop n xs)
  All-back P xs n each k d below = subst P (sym (get_or-drop n xs k d)) (each (n + k) d (omega arith) (omega (arith, below, length-drop n xs)))

  filter-all : (test : X → Bool) (xs : List X) → All (λ x. test x ≡ true) xs → filter test xs ≡ xs
  filter-all test [] all = refl
  filter-all test (x ∷ xs) all = rw (All-head (λ x. test x ≡ true) x xs all) (ap (λ rest. x ∷ rest) (filter-all test xs (All-tail (λ x. test x ≡ true) x xs all)))

  parted : (test : X → Bool) (xs : List X) (n : ℕ) → filter test (take n xs) ++ filter test (drop n xs) ≡ filter test xs
  parted test xs n = sym (filter-append test (take n xs) (drop n xs)) ∙ ap (filter test) (take-append-drop n xs)

  nothing_in : (test : X → Bool) (xs : List X) → All (λ x. test x ≡ false) xs → filter test xs ≡ []
  nothing_in test xs none = filter-none test xs (recursion_from_All (λ x. test x ≡ false) xs none)

low : (order : Ordering) → is_lt order ≡ true → is_eq (ordering_reverse order) ≡ false
low Less is = refl
low Equal is = cc
low Greater is = cc

middle : (order : Ordering) → is_lt order ≡ false → is_le order ≡ true → is_eq (ordering_reverse order) ≡ true
middle Less not_low le = cc
middle Equal not_low le = refl
middle Greater not_low le = cc

high : (order : Ordering) → is_le order ≡ false → is_eq (ordering_reverse order) ≡ false
high Less is = cc
high Equal is = cc
high Greater is = refl

lt_index : (order : Ordering) → leb (ordering_index order) 0 ≡ is_lt order
lt_index Less = refl
lt_index Equal = refl
lt_index Greater = refl

le_index : (order : Ordering) → leb (ordering_index order) 1 ≡ is_le order
le_index Less = refl
le_index Equal = refl
le_index Greater = refl

module _ (group : Ip) where
  abbrev pub is_before : MembershipChange → Bool
  is_before change = is_lt (ip_order change.group group)

  abbrev pub is_not_after : MembershipChange → Bool
  is_not_after change = is_le (ip_order change.group group)

  abbrev place : MembershipChange → ℕ
  place change = ordering_index (ip_order change.group group)

  rising : (changes : List MembershipChange) → IsAscending change_order changes → IsNonDecreasingBy place changes
  rising changes ascends = searchable_from_sorted ip_order-total (λ (change : MembershipChange). change.group) changes group (groups_sorted changes ascends)

  pub parted_before : (changes : List MembershipChange) → IsAscending change_order changes → IsPartitionedBy is_before changes
  parted_before changes ascends =
      subst (λ (test : MembershipChange → Bool). IsPartitionedBy test changes) (λ i change. lt_index (ip_order change.group group) i) (IsPartitionedBy-leb place changes 0 (rising changes ascends))

  pub parted_after : (changes : List MembershipChange) (start : ℕ) → IsAscending change_order changes → IsPartitionedBy is_not_after (drop start changes)
  parted_after changes start ascends =
      subst (λ (test : MembershipChange → Bool). IsPartitionedBy test (drop start changes)) (λ i change. le_index (ip_order change.group group) i)
      (IsPartitionedBy-leb place (drop start changes) 1 (IsNonDecreasingBy-drop place start changes (rising changes ascends)))

  of_group : (order : Ordering) (change : MembershipChange) (is : Bool) → ip_order change.group group ≡ order → is_eq (ordering_reverse order) ≡ is → same_group group change.group ≡ is
  of_group order change is same told = ap is_eq (ip_order-total.antisymm group change.group ∙ ap ordering_reverse same) ∙ told

  -- the changes from the first that isn't before the group to the last that isn't after it
  pub changes_between_points : (changes : List MembershipChange) (start end : ℕ) → IsPartitionPoint (λ change. is_before change ≡ true) (λ change. is_before change ≡ false) changes start
      → IsPartitionPoint (λ change. is_not_after change ≡ true) (λ change. is_not_after change ≡ false) (drop start changes) end → end ≤ length (drop start changes)
      → take end (drop start changes) ≡ changes_on_group group changes
  changes_between_points changes start end first second fits =
      let test = λ (change : MembershipChange). same_group group change.group in
      let rest = drop start changes in
      let back = All-back (λ change. is_before change ≡ false) changes start first.1 in
      let none_first = nothing_in test (take start changes)
      (All-front (λ change. test change ≡ false) changes start (λ k d from below. of_group _ (get_or changes k d) false refl (low (ip_order (get_or changes k d).group group) (first.0 k d from below)))) in
      let none_last = nothing_in test (drop end rest)
      (All-back (λ change. test change ≡ false) rest end (λ k d from below. of_group _ (get_or rest k d) false refl (high (ip_order (get_or rest k d).group group) (second.1 k d from below)))) in
      let all = filter-all test (take end rest)
      (All-front (λ change. test change ≡ true) rest end (λ k d from below. of_group _ (get_or rest k d) true refl (middle (ip_order (get_or rest k d).group group) (back k d (omega arith)) (second.0 k d from below)))) in
      sym (sym (parted test changes start) ∙ ap (λ (some : List MembershipChange). some ++ filter test rest) none_first ∙ sym (parted test rest end)
      ∙ ap (λ (some : List MembershipChange). filter test (take end rest) ++ some) none_last ∙ append-nil (filter test (take end rest)) ∙ all)
