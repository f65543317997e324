-- Lists in which one item alone passes a test, or none, or each.
use Rattle.std.proofs.{Common.{◌≡◌, ℕ, zero, suc, ◌<◌, Bool, true, false, List, [], ◌∷◌, map, length, get_or, set, filter, All, AllPairs, if◌then◌else◌, refl, ap, ◌∙◌, arith}, lemmas.{Bool.{cond-false, false_from_ne_true}, List.Folds.{map_fixed}}}

module _ {X : Type 0} (test : X → Bool) where
  -- no item passes
  abbrev pub NonePasses : List X → Type 0
  NonePasses xs = All (λ x. test x ≡ false) xs

  -- no two items pass
  abbrev pub PassesOnce : List X → Type 0
  PassesOnce xs = AllPairs (λ one other. test one ≡ true → test other ≡ true → ⊥) xs

  abbrev pub changed : (X → X) → X → X
  changed change x = if test x then change x else x

  pub filter_none : (xs : List X) → NonePasses xs → filter test xs ≡ []
  filter_none [] none = refl
  filter_none (x ∷ xs) none = let first : test x ≡ false = none 0 x (omega arith) in rw first (filter_none xs (λ k d below. none (suc k) d (omega arith)))

  pub filter_every : (xs : List X) → All (λ x. test x ≡ true) xs → filter test xs ≡ xs
  filter_every [] all = refl
  filter_every (x ∷ xs) all =
      let first : test x ≡ true = all 0 x (omega arith) in rw first (ap (λ (rest : List X). x ∷ rest) (filter_every xs (λ k d below. all (suc k) d (omega arith))))

  pub map_none : (change : X → X) (xs : List X) → NonePasses xs → map (changed change) xs ≡ xs
  map_none change xs none = map_fixed (changed change) xs (λ k d below. cond-false (test (get_or xs k d)) (change (get_or xs k d)) (get_or xs k d) (none k d below))

  -- the item at the place alone is kept, and changed
  pub record IsAlone (xs : List X) (place : ℕ) (x : X) : Type 0 where
    pub kept : filter test xs ≡ x ∷ []
    pub changes : (change : X → X) → map (changed change) xs ≡ set xs place (change x)

  pub alone : (xs : List X) (place : ℕ) (x : X) → PassesOnce xs → place < length xs → get_or xs place x ≡ x → test x ≡ true → IsAlone xs place x
  alone [] place x once within is passes = absurd (omega arith)
  alone (first ∷ xs) zero x once within is passes =
      let here : test first ≡ true = ap test is ∙ passes in
      let none : NonePasses xs = λ k d below. false_from_ne_true _ (λ too. once 0 (suc k) d (omega arith) (omega arith) here too) in
      record { kept = rw here (λ i. is i ∷ filter_none xs none i); changes = λ change. rw here (λ i. change (is i) ∷ map_none change xs none i) }
  alone (first ∷ xs) (suc place) x once within is passes =
      let other : test first ≡ false = false_from_ne_true _ (λ too. once 0 (suc place) x (omega arith) within too (ap test is ∙ passes)) in
      let rest = alone xs place x (λ i j d low below. once (suc i) (suc j) d (omega arith) (omega arith)) (omega arith) is passes in
      record { kept = rw other rest.kept; changes = λ change. rw other (ap (λ (more : List X). first ∷ more) (rest.changes change)) }
