-- Lists in which two items alone pass a test, one after the other.
use Rattle.{std.proofs.{Common.{◌≡◌, ℕ, zero, suc, ◌<◌, Bool, true, false, List, [], ◌∷◌, ◌++◌, map, length, get_or, set, filter, All, AllPairs, ap, ◌∙◌, subst, arith, append_assoc, inl, inr}, lemmas.{Bool.{cases_order}, List.{Elements.{All-push}, Quantifiers.{all_pairs_push}}}}, amt_pair.proofs.Alone.{NonePasses, PassesOnce, changed, filter_none, map_none}}

module _ {X : Type 0} (test : X → Bool) where
  -- none passes but those at the place and after it
  abbrev pub OnlyThere : List X → ℕ → Type 0
  OnlyThere xs place = (k : ℕ) (d : X) → k < length xs → (k ≡ place → ⊥) → (k ≡ suc place → ⊥) → test (get_or xs k d) ≡ false

  -- the two at the place and after it are kept, and changed
  pub record AreSideBySide (xs : List X) (place : ℕ) (x y : X) : Type 0 where
    pub kept : filter test xs ≡ x ∷ y ∷ []
    pub changes : (change : X → X) → map (changed test change) xs ≡ set (set xs place (change x)) (suc place) (change y)

  pub side_by_side : (xs : List X) (place : ℕ) (x y : X) → OnlyThere xs place → suc place < length xs → get_or xs place x ≡ x → get_or xs (suc place) y ≡ y → test x ≡ true → test y ≡ true
      → AreSideBySide xs place x y
  side_by_side [] place x y only within here next first second = absurd (omega arith)
  side_by_side (a ∷ []) place x y only within here next first second = absurd (omega arith)
  side_by_side (a ∷ b ∷ xs) zero x y only within here next first second =
      let at : test a ≡ true = ap test here ∙ first in
      let after : test b ≡ true = ap test next ∙ second in
      let none : NonePasses test xs = λ k d below. only (suc (suc k)) d (omega arith) (λ same. omega arith) (λ same. omega arith) in
      record {
        kept = rw at (rw after (λ i. here i ∷ next i ∷ filter_none test xs none i));
        changes = λ change. rw at (rw after (λ i. change (here i) ∷ change (next i) ∷ map_none test change xs none i));
      }
  side_by_side (a ∷ b ∷ xs) (suc place) x y only within here next first second =
      let other : test a ≡ false = only 0 a (omega arith) (λ same. omega arith) (λ same. omega arith) in
      let rest = side_by_side (b ∷ xs) place x y (λ k d below not_here not_next. only (suc k) d (omega arith) (λ same. not_here (omega arith)) (λ same. not_next (omega arith))) (omega arith) here next first second in
      record { kept = rw other rest.kept; changes = λ change. rw other (ap (λ (more : List X). a ∷ more) (rest.changes change)) }

  -- two places of items that pass are one, where no two items do
  pub same_place : (xs : List X) (i j : ℕ) (d : X) → PassesOnce test xs → i < length xs → j < length xs → test (get_or xs i d) ≡ true → test (get_or xs j d) ≡ true → i ≡ j
  same_place xs i j d once below within one other = elim (cases_order i j) [
    | inl same ↦ same
    | inr (inl before) ↦ absurd (once i j d before within one other)
    | inr (inr later) ↦ absurd (once j i d later below other one)
  ]

module _ {X Y : Type 0} where
  -- what holds of an item's image holds of the image at its place
  pub holds_map : (f : X → Y) (Fact : Y → Type 0) (xs : List X) (place : ℕ) (e : Y) → place < length xs → ((d : X) → Fact (f (get_or xs place d))) → Fact (get_or (map f xs) place e)
  holds_map f Fact [] place e within holds = absurd (omega arith)
  holds_map f Fact (x ∷ xs) zero e within holds = holds x
  holds_map f Fact (x ∷ xs) (suc place) e within holds = holds_map f Fact xs place e (omega arith) holds

module _ {X : Type 0} where
  -- two more items at the end
  pub two_more : (Fact : X → Type 0) (xs : List X) (x y : X) → All Fact xs → Fact x → Fact y → All Fact (xs ++ x ∷ y ∷ [])
  two_more Fact xs x y all first second =
      subst (All Fact) (append_assoc xs (x ∷ []) (y ∷ [])) (All-push Fact (xs ++ x ∷ []) y (All-push Fact xs x all first) second)

  pub two_apart : (R : X → X → Type 0) (xs : List X) (x y : X) → AllPairs R xs → All (λ one. R one x) xs → All (λ one. R one y) xs → R x y → AllPairs R (xs ++ x ∷ y ∷ [])
  two_apart R xs x y apart first second both =
      subst (AllPairs R) (append_assoc xs (x ∷ []) (y ∷ []))
      (all_pairs_push R (xs ++ x ∷ []) y (all_pairs_push R xs x apart first) (All-push (λ (one : X). R one y) xs x second both))
