-- Ascending lists under any total order.
use Rattle.std.proofs.{Common.{◌≡◌, ◌≤◌, suc, Bool, true, false, not, cond, ◌&&◌, ◌||◌, List, [], ◌∷◌, ◌++◌, length, filter, flat_map, refl, sym, ap, ◌∙◌, arith}, lemmas.{Bool.{true≢false}, Cmp.{alike_right, tied_itself}, List.{Folds.{list_any-append}, Kept.{IsStrictlySortedBy-filter}}, Map.Keys.{sorted_tail}}}
use Rattle.std.{proofs.lemmas.Map.{Lookups.{CmpEqualImpliesEq, btree_set_from_contains}, Views.{any-filter_same}}, specs.{Cmp.{IsTotalOrder}, List.{AllByRecursion, Sorted.{IsStrictlySortedBy}}, Ordering.{is_eq, eq_by_cmp, match_ordering, ordering_reverse}, declared.cmp.Ordering.{Ordering, TheVariants.{Less, Equal, Greater}}}}
use Rattle.amt_values.specs.Ascending.{has, IsAscending, placed, ascending, union, difference, intersection}

twice : (a b c : Bool) → a ≡ b → (b || c) ≡ (a || (b || c))
twice true b c same = ap (λ t. t || c) (sym same)
twice false b c same = refl

swapped : (a b c d : Bool) → d ≡ (a || c) → (b || d) ≡ (a || (b || c))
swapped true true c d is = refl
swapped false true c d is = refl
swapped a false c d is = is

turned : (a b : Bool) → (a && b) ≡ (b && a)
turned true true = refl
turned true false = refl
turned false true = refl
turned false false = refl

never : (listed : Bool) → (listed && not listed) ≡ false
never true = refl
never false = refl

pub Equal-from_test : (o : Ordering) → is_eq o ≡ true → o ≡ Equal
Equal-from_test Less is = cc
Equal-from_test Equal is = refl
Equal-from_test Greater is = cc

module _ {K : Type 0} (order : K → K → Ordering) where
  pub has-append : (xs ys : List K) (s : K) → has order (xs ++ ys) s ≡ (has order xs s || has order ys s)
  has-append xs ys s = list_any-append (eq_by_cmp order s) xs ys

  pub IsAscending-filter : (p : K → Bool) (xs : List K) → IsAscending order xs → IsAscending order (filter p xs)
  IsAscending-filter p xs ascends = IsStrictlySortedBy-filter order p xs ascends

  length-placed_by : (o : Ordering) (x y : K) (ys : List K) → length (placed order x ys) ≤ suc (length ys)
      → length (match_ordering o (x ∷ y ∷ ys) (y ∷ ys) (y ∷ placed order x ys)) ≤ suc (suc (length ys))
  length-placed_by Less x y ys rest = omega arith
  length-placed_by Equal x y ys rest = omega arith
  length-placed_by Greater x y ys rest = omega arith

  length-placed : (x : K) (ys : List K) → length (placed order x ys) ≤ suc (length ys)
  length-placed x [] = omega arith
  length-placed x (y ∷ ys) = length-placed_by (order x y) x y ys (length-placed x ys)

  pub length-ascending : (xs : List K) → length (ascending order xs) ≤ length xs
  length-ascending [] = omega arith
  length-ascending (x ∷ xs) = omega (arith, length-placed x (ascending order xs), length-ascending xs)

module _ {K : Type 0} {order : K → K → Ordering} where
  pub has-filter : CmpEqualImpliesEq order → (p : K → Bool) (xs : List K) (s : K) → has order (filter p xs) s ≡ (has order xs s && p s)
  has-filter exact p xs s =
      any-filter_same (eq_by_cmp order s) p (p s) (λ k same. ap p (sym (exact s k (Equal-from_test (order s k) same)))) xs
      ∙ turned (p s) (has order xs s)

  pub has-difference : CmpEqualImpliesEq order → (xs ys : List K) (s : K) → has order (difference order xs ys) s ≡ (has order xs s && not (has order ys s))
  has-difference exact xs ys s = has-filter exact (λ x. not (has order ys x)) xs s

  pub has-intersection : CmpEqualImpliesEq order → (xs ys : List K) (s : K) → has order (intersection order xs ys) s ≡ (has order xs s && has order ys s)
  has-intersection exact xs ys s = has-filter exact (λ x. has order ys x) xs s

  module _ (total : IsTotalOrder order) where
    has-placed_by : (o : Ordering) (x y : K) (ys : List K) (s : K) → order x y ≡ o → has order (placed order x ys) s ≡ (eq_by_cmp order s x || has order ys s)
        → has order (match_ordering o (x ∷ y ∷ ys) (y ∷ ys) (y ∷ placed order x ys)) s ≡ (eq_by_cmp order s x || has order (y ∷ ys) s)
    has-placed_by Less x y ys s is rest = refl
    has-placed_by Equal x y ys s is rest = twice (eq_by_cmp order s x) (eq_by_cmp order s y) (has order ys s) (ap is_eq (alike_right total x y s is))
    has-placed_by Greater x y ys s is rest = swapped (eq_by_cmp order s x) (eq_by_cmp order s y) (has order ys s) (has order (placed order x ys) s) rest

    pub has-placed : (x : K) (ys : List K) (s : K) → has order (placed order x ys) s ≡ (eq_by_cmp order s x || has order ys s)
    has-placed x [] s = refl
    has-placed x (y ∷ ys) s = has-placed_by (order x y) x y ys s refl (has-placed x ys s)

    pub has-ascending : (xs : List K) (s : K) → has order (ascending order xs) s ≡ has order xs s
    has-ascending [] s = refl
    has-ascending (x ∷ xs) s = has-placed x (ascending order xs) s ∙ ap (λ t. eq_by_cmp order s x || t) (has-ascending xs s)

    pub has-union : (xs ys : List K) (s : K) → has order (union order xs ys) s ≡ (has order xs s || has order ys s)
    has-union xs ys s = has-ascending (xs ++ ys) s ∙ has-append order xs ys s

    above_placed_by : (P : K → Type 0) (o : Ordering) (x y : K) (ys : List K) → P x → P y → AllByRecursion P ys → AllByRecursion P (placed order x ys)
        → AllByRecursion P (match_ordering o (x ∷ y ∷ ys) (y ∷ ys) (y ∷ placed order x ys))
    above_placed_by P Less x y ys first second rest more = (first, (second, rest))
    above_placed_by P Equal x y ys first second rest more = (second, rest)
    above_placed_by P Greater x y ys first second rest more = (second, more)

    above_placed : (P : K → Type 0) (x : K) (ys : List K) → P x → AllByRecursion P ys → AllByRecursion P (placed order x ys)
    above_placed P x [] first rest = (first, tt)
    above_placed P x (y ∷ ys) first rest = above_placed_by P (order x y) x y ys first rest.0 rest.1 (above_placed P x ys first rest.1)

    above_lower : (x y : K) (ys : List K) → order x y ≡ Less → AllByRecursion (λ z. order y z ≡ Less) ys → AllByRecursion (λ z. order x z ≡ Less) ys
    above_lower x y [] is rest = tt
    above_lower x y (z ∷ zs) is rest = (total.trans x y z is rest.0, above_lower x y zs is rest.1)

    IsAscending-placed_by : (o : Ordering) (x y : K) (ys : List K) → order x y ≡ o → IsAscending order (y ∷ ys) → IsAscending order (placed order x ys)
        → IsAscending order (match_ordering o (x ∷ y ∷ ys) (y ∷ ys) (y ∷ placed order x ys))
    unfolding IsStrictlySortedBy
    IsAscending-placed_by Less x y ys is ascends more = ((is, above_lower x y ys is ascends.0), ascends)
    IsAscending-placed_by Equal x y ys is ascends more = ascends
    IsAscending-placed_by Greater x y ys is ascends more =
        (above_placed (λ z. order y z ≡ Less) x ys (total.antisymm y x ∙ ap ordering_reverse is) ascends.0, more)

    pub IsAscending-placed : (x : K) (ys : List K) → IsAscending order ys → IsAscending order (placed order x ys)
    unfolding IsStrictlySortedBy
    IsAscending-placed x [] ascends = (tt, tt)
    IsAscending-placed x (y ∷ ys) ascends = IsAscending-placed_by (order x y) x y ys refl ascends (IsAscending-placed x ys (sorted_tail order y ys ascends))

    pub IsAscending-ascending : (xs : List K) → IsAscending order (ascending order xs)
    unfolding IsStrictlySortedBy
    IsAscending-ascending [] = tt
    IsAscending-ascending (x ∷ xs) = IsAscending-placed x (ascending order xs) (IsAscending-ascending xs)

    -- a set has one ascending list
    pub same_ascending : CmpEqualImpliesEq order → (xs ys : List K) → IsAscending order xs → IsAscending order ys → ((s : K) → has order xs s ≡ has order ys s) → xs ≡ ys
    same_ascending exact xs ys first second same =
        btree_set_from_contains total (record { keys = xs }) (record { keys = ys }) first second same exact

    pub ascending-fixed : CmpEqualImpliesEq order → (xs : List K) → IsAscending order xs → ascending order xs ≡ xs
    ascending-fixed exact xs ascends = same_ascending exact (ascending order xs) xs (IsAscending-ascending xs) ascends (has-ascending xs)

    has_nothing : (xs : List K) → ((s : K) → has order xs s ≡ false) → xs ≡ []
    has_nothing [] none = refl
    has_nothing (x ∷ xs) none = absurd (true≢false (sym (ap (λ o. is_eq o || has order xs x) (tied_itself total x)) ∙ none x))

    pub difference-itself : CmpEqualImpliesEq order → (xs : List K) → difference order xs xs ≡ []
    difference-itself exact xs = has_nothing (difference order xs xs) (λ s. has-difference exact xs xs s ∙ never (has order xs s))

module _ {A B : Type 0} (f : A → List B) where
  left_out : (passes : Bool) (x : A) (xs : List A) → (passes ≡ false → f x ≡ []) → flat_map f (cond passes (x ∷ xs) xs) ≡ f x ++ flat_map f xs
  left_out true x xs nothing = refl
  left_out false x xs nothing = sym (ap (λ first. first ++ flat_map f xs) (nothing refl))

  -- items that give nothing may be left out
  flat_map-some : (test : A → Bool) → ((x : A) → test x ≡ false → f x ≡ []) → (xs : List A) → flat_map f (filter test xs) ≡ flat_map f xs
  flat_map-some test nothing [] = refl
  flat_map-some test nothing (x ∷ xs) = left_out (test x) x (filter test xs) (nothing x) ∙ ap (λ rest. f x ++ rest) (flat_map-some test nothing xs)

module _ {K B : Type 0} {order : K → K → Ordering} (total : IsTotalOrder order) (exact : CmpEqualImpliesEq order) where
  -- two ascending lists give the same where what is in one alone gives nothing
  pub flat_map-same : (f : K → List B) (xs ys : List K) → IsAscending order xs → IsAscending order ys → ((x : K) → has order xs x ≡ false → f x ≡ [])
      → ((x : K) → has order ys x ≡ false → f x ≡ []) → flat_map f xs ≡ flat_map f ys
  flat_map-same f xs ys first second none_first none_second =
      let common : List K = filter (has order ys) xs in
      let turned_common : List K = filter (has order xs) ys in
      sym (flat_map-some f (has order ys) none_second xs)
      ∙ ap (flat_map f) (same_ascending total exact common turned_common (IsAscending-filter order (has order ys) xs first) (IsAscending-filter order (has order xs) ys second)
      (λ s. has-filter exact (has order ys) xs s ∙ turned (has order xs s) (has order ys s) ∙ sym (has-filter exact (has order xs) ys s)))
      ∙ flat_map-some f (has order xs) none_first ys
