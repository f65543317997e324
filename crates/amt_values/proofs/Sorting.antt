-- What a sort with a dedup leaves, and what a binary search tells.
use Rattle.std.proofs.{Common.{◌≡◌, ℕ, ◌+◌, Bool, true, false, ◌||◌, List, [], ◌∷◌, length, get_or, cond, refl, sym, ap, ◌∙◌, arith, is_ok, is_lt, ⊎_elim, Result, Ok, Err, IsPermutation, IsSorted}, lemmas.{Bool.{cases_lt}, Cmp.{alike_right, tied_back}, List.{Filters.{dedup_is}, Folds.{list_any_at, list_any_none}, Kept.{IsStrictlySortedBy-dedup}}}}
use Rattle.std.{proofs.lemmas.{List.Sorted.{list_any-IsPermutation, searchable_from_sorted}, Map.{Keys.{Less-from_sorted}, Lookups.{CmpEqualImpliesEq}}}, specs.{Cmp.{IsTotalOrder}, List.{dedup, Retain.{IsFiltered, DiffersFromLast}, Sorted.{IsBinarySearchResult, IsSearchInRange}}, Ordering.{is_eq, eq_by_cmp, ordering_reverse}, declared.cmp.Ordering.{Ordering, TheVariants.{Less, Greater}}}}
use Rattle.amt_values.{specs.Ascending.{has, IsAscending, ascending}, proofs.AscendingLaws.{Equal-from_test, has-ascending, IsAscending-ascending, same_ascending}}

either_again : (a b c : Bool) → a ≡ b → (a || c) ≡ (a || (b || c))
either_again true b c same = refl
either_again false b c same = ap (λ t. t || c) same

module _ {K : Type 0} {order : K → K → Ordering} (total : IsTotalOrder order) where
  module _ {same : K → K → Bool} (ties : (x y : K) → same x y ≡ eq_by_cmp order x y) where
    -- x is kept and y is the item after it
    has-dedup_by : (b : Bool) (x y : K) (rest : List K) (s : K) → same y x ≡ b
        → has order (dedup same (x ∷ rest)) s ≡ has order (x ∷ rest) s → has order (dedup same (y ∷ rest)) s ≡ has order (y ∷ rest) s
        → has order (cond b (dedup same (x ∷ rest)) (x ∷ dedup same (y ∷ rest))) s ≡ has order (x ∷ y ∷ rest) s
    has-dedup_by true x y rest s is one other =
        one ∙ either_again (eq_by_cmp order s x) (eq_by_cmp order s y) (has order rest s)
        (ap is_eq (sym (alike_right total y x s (Equal-from_test (order y x) (sym (ties y x) ∙ is)))))
    has-dedup_by false x y rest s is one other = ap (λ t. eq_by_cmp order s x || t) other

    has-dedup_from : (x : K) (xs : List K) (s : K) → has order (dedup same (x ∷ xs)) s ≡ has order (x ∷ xs) s
    has-dedup_from x [] s = refl
    has-dedup_from x (y ∷ ys) s = has-dedup_by (same y x) x y ys s refl (has-dedup_from x ys s) (has-dedup_from y ys s)

    has-dedup : (xs : List K) (s : K) → has order (dedup same xs) s ≡ has order xs s
    has-dedup [] s = refl
    has-dedup (x ∷ xs) s = has-dedup_from x xs s

    pub ascending-sorted : CmpEqualImpliesEq order → (xs ys zs : List K) → IsPermutation xs ys → IsSorted order ys → IsFiltered (DiffersFromLast same) [] ys zs
        → zs ≡ ascending order xs
    ascending-sorted exact xs ys zs moved sorted left =
        dedup_is same ys zs left ∙ same_ascending total exact (dedup same ys) (ascending order xs)
        (IsStrictlySortedBy-dedup total ties ys sorted)
        (IsAscending-ascending total xs)
        (λ s. has-dedup ys s ∙ sym (list_any-IsPermutation (eq_by_cmp order s) xs ys moved) ∙ sym (has-ascending total xs s))

  falls_not : (one other : Ordering) → one ≡ ordering_reverse other → other ≡ Less → is_lt one ≡ false
  falls_not one other turn is = ap is_lt (turn ∙ ap ordering_reverse is)

  IsSorted-ascending : (xs : List K) → IsAscending order xs → IsSorted order xs
  IsSorted-ascending xs ascends k d from below =
      falls_not (order (get_or xs (k + 1) d) (get_or xs k d)) (order (get_or xs k d) (get_or xs (k + 1) d))
      (total.antisymm (get_or xs (k + 1) d) (get_or xs k d)) (Less-from_sorted order xs k (k + 1) d ascends (omega arith) below)

  turned_less : (x y : K) → order x y ≡ Less → eq_by_cmp order y x ≡ false
  turned_less x y is = ap is_eq (total.antisymm y x ∙ ap ordering_reverse is)

  turned_greater : (x y : K) → order x y ≡ Greater → eq_by_cmp order y x ≡ false
  turned_greater x y is = ap is_eq (total.antisymm y x ∙ ap ordering_reverse is)

  -- a binary search in an ascending list tells whether it has the item
  pub has-searched : (xs : List K) (s : K) (answer : Result ℕ ℕ) → IsAscending order xs → IsSearchInRange answer (length xs)
      → IsBinarySearchResult (λ y. order y s) xs answer → is_ok answer ≡ has order xs s
  has-searched xs s (Ok i) ascends below at = sym (list_any_at (eq_by_cmp order s) xs i s below (ap is_eq (tied_back total (get_or xs i s) s (at s))))
  has-searched xs s (Err i) ascends below at =
      let parts = at (searchable_from_sorted total (λ (y : K). y) xs s (IsSorted-ascending xs ascends)) in
      sym (list_any_none (eq_by_cmp order s) xs (λ k d inside. ⊎_elim
      (λ before. turned_less (get_or xs k d) s (parts.0 k d (omega arith) before))
      (λ after. turned_greater (get_or xs k d) s (parts.1 k d after inside))
      (cases_lt k i)))
