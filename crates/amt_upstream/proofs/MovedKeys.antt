-- What changes are counted by moves the numbers of the memberships before to those of the memberships after.
use Rattle.std.proofs.{Common.{◌≡◌, ℕ, ◌+◌, ◌≤◌, Bool, true, false, cond, not, ◌||◌, List, [], ◌∷◌, filter, sum_by, Option, Some, None, refl, sym, ap, ◌∙◌, arith, inl, inr}, lemmas.{Bool.{cases_Bool}, Cmp.{on_total, then_total, tied_itself}, Map.Keys.{sorted_head, sorted_tail}, List.{Elements.{All-cons, All-head, All-nil, All-tail}, Filters.{sum_by-filter_both}, Sums.{sum_by-append, sum_by-cons}}}}
use Rattle.std.specs.{Prelude.{All}, Cmp.{IsTotalOrder}, List.{AllByRecursion, flat_map}, Option.{option_map}, declared.cmp.Ordering.{TheVariants.{Less}}}
use Rattle.amt_values.{specs.{Ascending.{IsAscending}}, proofs.{AscendingLaws.{IsAscending-filter}, Orders.{endpoint_order-total, ip_order-total}}}
use Rattle.source_filter.specs.Filter.{FilterValue}
use Rattle.endpoint_membership.specs.{EndpointGroup.{EndpointGroup, same_endpoint_group}, Membership.{Membership, endpoint_group_of, membership_order}, Memberships.{membership_in}, MembershipChanges.{AreChanges, IsChange, change_order, changed_pair, changes_pair, filter_at}, declared.membership_change.MembershipChange.{MembershipChange}}
use Rattle.endpoint_membership.proofs.{MembershipIn.{membership_in-first, membership_in-where, none_later, same_endpoint_group-exact}, SetAt.{same_back}}
use Rattle.amt_upstream.specs.{Counting.{keys_if, keys_in, keys_before, keys_after, times, same_key}, declared.count_key.CountKey.{CountKey}}

-- how often a key is among those of several lists
pub times-flat_map : {X : Type 0} (key : CountKey) (f : X → List CountKey) (xs : List X) → times key (flat_map f xs) ≡ sum_by (λ x. times key (f x)) xs
times-flat_map key f [] = refl
times-flat_map key f (x ∷ xs) =
    sum_by-append (λ one. cond (same_key key one) 1 0) (f x) (flat_map f xs) ∙ ap (λ n. times key (f x) + n) (times-flat_map key f xs)
    ∙ sym (sum_by-cons (λ one. times key (f one)) x xs)

-- ---- the filter of a pair, where the memberships of another are left out

abbrev filter_of : Option Membership → Option FilterValue
filter_of found = option_map (λ membership. membership.filter) found

-- all memberships but the pair's
abbrev others : EndpointGroup → List Membership → List Membership
others at rows = filter (λ membership. not (same_endpoint_group at (endpoint_group_of membership))) rows

left_out : (here : Bool) (found : Option Membership) → filter_of (cond (not here) found None) ≡ cond here None (filter_of found)
left_out true found = refl
left_out false found = refl

filter_at-others : (rows : List Membership) (at other : EndpointGroup) → IsAscending membership_order rows → filter_at (others at rows) other ≡ cond (same_endpoint_group at other) None (filter_at rows other)
filter_at-others rows at other ascends =
    ap filter_of (membership_in-where (λ (one : EndpointGroup). not (same_endpoint_group at one)) rows other ascends) ∙ left_out (same_endpoint_group at other) (membership_in rows other)

others-ascend : (rows : List Membership) (at : EndpointGroup) → IsAscending membership_order rows → IsAscending membership_order (others at rows)
others-ascend rows at ascends = IsAscending-filter membership_order (λ (membership : Membership). not (same_endpoint_group at (endpoint_group_of membership))) rows ascends

filter_at-first : (first : Membership) (rest : List Membership) → filter_at (first ∷ rest) (endpoint_group_of first) ≡ Some first.filter
filter_at-first first rest = ap filter_of (membership_in-first first rest)

-- ---- changes without the first one

-- no change comes before itself
not_before_itself : (change : MembershipChange) → change_order change change ≡ Less → ⊥
not_before_itself change less =
    let total : IsTotalOrder change_order = then_total (on_total (λ (one : MembershipChange). one.group) ip_order-total) (on_total (λ (one : MembershipChange). one.endpoint) endpoint_order-total) in
    let tied = tied_itself total change in cc

-- changes of which one comes first are of two pairs
two_pairs : (first later : MembershipChange) → change_order first later ≡ Less → same_endpoint_group (changed_pair first) (changed_pair later) ≡ false
two_pairs first later less = elim (cases_Bool (same_endpoint_group (changed_pair first) (changed_pair later))) [
  | inl same ↦ let one = same_endpoint_group-exact (changed_pair first) (changed_pair later) same in
      absurd (not_before_itself first (ap (λ (at : EndpointGroup). change_order first (record { group = at.group; endpoint = at.endpoint; before = None; after = None })) one ∙ less))
  | inr apart ↦ apart
]

still : (rows : List Membership) (first later : MembershipChange) (is : Option FilterValue) → IsAscending membership_order rows → change_order first later ≡ Less → is ≡ filter_at rows (changed_pair later)
    → is ≡ filter_at (others (changed_pair first) rows) (changed_pair later)
still rows first later is ascends less same =
    same ∙ sym (filter_at-others rows (changed_pair first) (changed_pair later) ascends ∙ ap (λ (here : Bool). cond here None (filter_at rows (changed_pair later))) (two_pairs first later less))

apart_by : {A : Type 0} (here : Bool) (one other : Option A) → (here ≡ false → one ≡ other) → cond here None one ≡ cond here None other
apart_by true one other same = refl
apart_by false one other same = same refl

neither : (here more : Bool) → here ≡ false → more ≡ false → (here || more) ≡ false
neither here more one other = rw one other

All-both : (P Q R : MembershipChange → Type 0) (xs : List MembershipChange) → ((x : MembershipChange) → P x → Q x → R x) → AllByRecursion P xs → All Q xs → All R xs
All-both P Q R [] both ps qs = All-nil R
All-both P Q R (x ∷ xs) both ps qs = All-cons R x xs (both x ps.0 (All-head Q x xs qs)) (All-both P Q R xs both ps.1 (All-tail Q x xs qs))

AreChanges-rest : (before after : List Membership) (first : MembershipChange) (rest : List MembershipChange) → IsAscending membership_order before → IsAscending membership_order after → AreChanges before after (first ∷ rest)
    → AreChanges (others (changed_pair first) before) (others (changed_pair first) after) rest
AreChanges-rest before after first rest one two are =
    let at = changed_pair first in record {
      ascend = sorted_tail change_order first rest are.ascend;
      each = All-both (λ later. change_order first later ≡ Less) (IsChange before after) (IsChange (others at before) (others at after)) rest
          (λ later less is. record { was = still before first later later.before one less is.was; is = still after first later later.after two less is.is; differ = is.differ })
          (sorted_head change_order first rest are.ascend) (All-tail (IsChange before after) first rest are.each);
      others = λ other none. filter_at-others before at other one
          ∙ apart_by (same_endpoint_group at other) (filter_at before other) (filter_at after other) (λ apart. are.others other (neither (same_endpoint_group other at) (changes_pair rest other) (same_back other at ∙ apart) none))
          ∙ sym (filter_at-others after at other two);
    }

-- ---- sums over memberships

-- a number for the filter of a pair, which is 0 where there is none
module _ (of : EndpointGroup → Option FilterValue → ℕ) (none : (at : EndpointGroup) → of at None ≡ 0) where
  abbrev of_row : Membership → ℕ
  of_row membership = of (endpoint_group_of membership) (Some membership.filter)

  here_by : (here : Bool) (at : EndpointGroup) (first : Membership) (later : List Membership) (found : Option Membership) → (here ≡ true → at ≡ endpoint_group_of first) → (here ≡ true → found ≡ None)
      → sum_by of_row later ≡ of at (filter_of found) → sum_by of_row (cond here (first ∷ later) later) ≡ of at (filter_of (cond here (Some first) found))
  here_by true at first later found same gone rest =
      let more = sum_by-cons of_row first later in
      let nothing : sum_by of_row later ≡ 0 = rest ∙ ap (λ (one : Option Membership). of at (filter_of one)) (gone refl) ∙ none at in
      let its = ap (λ (one : EndpointGroup). of one (Some first.filter)) (same refl) in
      omega arith
  here_by false at first later found same gone rest = rest

  sum_here : (rows : List Membership) (at : EndpointGroup) → IsAscending membership_order rows → sum_by of_row (filter (λ membership. same_endpoint_group at (endpoint_group_of membership)) rows) ≡ of at (filter_at rows at)
  sum_here [] at ascends = sym (none at)
  sum_here (first ∷ rest) at ascends =
      here_by (same_endpoint_group at (endpoint_group_of first)) at first (filter (λ membership. same_endpoint_group at (endpoint_group_of membership)) rest) (membership_in rest at)
      (same_endpoint_group-exact at (endpoint_group_of first)) (none_later first rest at ascends) (sum_here rest at (sorted_tail membership_order first rest ascends))

  -- the pair's number, and those of the others
  pub sum_split : (rows : List Membership) (at : EndpointGroup) → IsAscending membership_order rows → sum_by of_row rows ≡ of at (filter_at rows at) + sum_by of_row (others at rows)
  sum_split rows at ascends =
      sym (sum_by-filter_both (λ (membership : Membership). same_endpoint_group at (endpoint_group_of membership)) (λ (membership : Membership). not (same_endpoint_group at (endpoint_group_of membership))) (λ (membership : Membership). refl) of_row rows)
      ∙ ap (λ (n : ℕ). n + sum_by of_row (others at rows)) (sum_here rows at ascends)

  later_by : (here back : Bool) (first : Membership) (found : Option Membership) → here ≡ back → (back ≡ true → found ≡ None) → filter_of found ≡ cond here None (filter_of (cond back (Some first) found))
  later_by here true first found one gone = ap filter_of (gone refl) ∙ rw one refl
  later_by here false first found one gone = rw one refl

  same_sum : (before after : List Membership) → IsAscending membership_order before → IsAscending membership_order after → ((at : EndpointGroup) → filter_at before at ≡ filter_at after at) → sum_by of_row before ≡ sum_by of_row after
  same_sum [] [] one two same = refl
  same_sum [] (first ∷ rest) one two same = let wrong = same (endpoint_group_of first) ∙ filter_at-first first rest in cc
  same_sum (first ∷ rest) after one two same =
      let at = endpoint_group_of first in
      let here = ap (of at) (sym (filter_at-first first rest) ∙ same at) in
      let later = same_sum rest (others at after) (sorted_tail membership_order first rest one) (others-ascend after at two)
      (λ other. later_by (same_endpoint_group at other) (same_endpoint_group other at) first (membership_in rest other) (same_back at other) (none_later first rest other one)
      ∙ ap (cond (same_endpoint_group at other) None) (same other) ∙ sym (filter_at-others after at other two)) in
      let whole = sum_split after at two in
      let more = sum_by-cons of_row first rest in
      omega arith

  abbrev was_of : MembershipChange → ℕ
  was_of change = of (changed_pair change) change.before

  abbrev is_of : MembershipChange → ℕ
  is_of change = of (changed_pair change) change.after

  -- changes take the numbers before and bring those after; and they take no more than there is
  pub sums_moved : (changes : List MembershipChange) (before after : List Membership) → IsAscending membership_order before → IsAscending membership_order after → AreChanges before after changes
      → (sum_by of_row after + sum_by was_of changes ≡ sum_by of_row before + sum_by is_of changes) × (sum_by was_of changes ≤ sum_by of_row before)
  sums_moved [] before after one two are = let same = same_sum before after one two (λ at. are.others at refl) in (omega arith, omega arith)
  sums_moved (first ∷ rest) before after one two are =
      let at = changed_pair first in
      let change = All-head (IsChange before after) first rest are.each in
      let later = sums_moved rest (others at before) (others at after) (others-ascend before at one) (others-ascend after at two) (AreChanges-rest before after first rest one two are) in
      let whole_before = sum_split before at one in
      let whole_after = sum_split after at two in
      let was = ap (of at) change.was in
      let is = ap (of at) change.is in
      let more_was = sum_by-cons was_of first rest in
      let more_is = sum_by-cons is_of first rest in
      (omega arith, omega arith)

-- ---- numbers of keys

abbrev keys_at : CountKey → EndpointGroup → Option FilterValue → ℕ
keys_at key at found = times key (keys_if at.group at.endpoint found)

pub keys_moved : (key : CountKey) (changes : List MembershipChange) (before after : List Membership) → IsAscending membership_order before → IsAscending membership_order after → AreChanges before after changes
    → (times key (keys_in after) + times key (keys_before changes) ≡ times key (keys_in before) + times key (keys_after changes)) × (times key (keys_before changes) ≤ times key (keys_in before))
keys_moved key changes before after one two are =
    let moved = sums_moved (keys_at key) (λ at. refl) changes before after one two are in
    let was = times-flat_map key (λ (change : MembershipChange). keys_if change.group change.endpoint change.before) changes in
    let is = times-flat_map key (λ (change : MembershipChange). keys_if change.group change.endpoint change.after) changes in
    let old = times-flat_map key (λ (membership : Membership). keys_if membership.group membership.endpoint (Some membership.filter)) before in
    let new = times-flat_map key (λ (membership : Membership). keys_if membership.group membership.endpoint (Some membership.filter)) after in
    (omega arith, omega arith)
