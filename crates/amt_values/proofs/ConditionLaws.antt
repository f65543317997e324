-- Conditions of which none holds, the first of two lists of conditions, and the value that is read where
-- none holds.
use Rattle.std.{proofs.{Common.{◌≡◌, ℕ, List, [], ◌∷◌, ◌++◌, map, Bool, true, false, cond, not, eqb, Option, None, Some, Ok, Err, refl, ap, ◌∙◌, arith}, lemmas.Bool.{eqb-true, not-false}}, specs.{List.{find}, Option.{option_map}}}
use Rattle.amt_values.specs.Conditions.{Conditions, NoneHolds, first_holding, first_of, unless}

pub skipped : {Cause : Type 0} (holds : Bool) (cause : Cause) (rest : Conditions Cause) → first_holding ((holds, cause) ∷ rest) ≡ None
    → (holds ≡ false) × (first_holding rest ≡ None)
skipped true cause rest none = cc
skipped false cause rest none = (refl, none)

pub NoneHolds-of : {Cause : Type 0} (conditions : Conditions Cause) → first_holding conditions ≡ None → NoneHolds conditions
NoneHolds-of [] none = tt
NoneHolds-of (condition ∷ rest) none =
    let parts = skipped condition.0 condition.1 rest none in (parts.0, NoneHolds-of rest parts.1)

pub first_holding-none : {Cause : Type 0} (conditions : Conditions Cause) → NoneHolds conditions → first_holding conditions ≡ None
first_holding-none [] none = refl
first_holding-none (condition ∷ rest) none = rw none.0 (first_holding-none rest none.1)

first_holding-step : {Cause : Type 0} (holds : Bool) (cause : Cause) (rest more : Conditions Cause)
    → first_holding (rest ++ more) ≡ first_of (first_holding rest) (first_holding more)
    → first_holding ((holds, cause) ∷ (rest ++ more)) ≡ first_of (first_holding ((holds, cause) ∷ rest)) (first_holding more)
first_holding-step true cause rest more same = refl
first_holding-step false cause rest more same = same

-- conditions and then others: the first of the former that holds, or else of the latter
pub first_holding-append : {Cause : Type 0} (conditions more : Conditions Cause)
    → first_holding (conditions ++ more) ≡ first_of (first_holding conditions) (first_holding more)
first_holding-append [] more = refl
first_holding-append (condition ∷ rest) more = first_holding-step condition.0 condition.1 rest more (first_holding-append rest more)

-- where the first of all is none, it is none of the former and none of the latter
pub first_holding-both_none : {Cause : Type 0} (conditions more : Conditions Cause) → first_holding (conditions ++ more) ≡ None
    → (first_holding conditions ≡ None) × (first_holding more ≡ None)
first_holding-both_none [] more none = (refl, none)
first_holding-both_none (condition ∷ rest) more none =
    let parts = skipped condition.0 condition.1 (rest ++ more) none in
    let others = first_holding-both_none rest more parts.1 in
    (rw parts.0 others.0, others.1)

-- where none of the former holds, the first of all is the first of the latter
pub first_holding-later : {Cause : Type 0} (conditions more : Conditions Cause) → first_holding conditions ≡ None
    → first_holding (conditions ++ more) ≡ first_holding more
first_holding-later conditions more none =
    first_holding-append conditions more ∙ ap (λ first. first_of first (first_holding more)) none

-- where one of the former holds, the first of all is one of them
pub first_holding-here : {Cause : Type 0} (conditions more : Conditions Cause) (cause : Cause) → first_holding conditions ≡ Some cause
    → first_holding (conditions ++ more) ≡ Some cause
first_holding-here conditions more cause some =
    first_holding-append conditions more ∙ ap (λ first. first_of first (first_holding more)) some

first_holding-map_step : {A Cause : Type 0} (passes : Bool) (cause : A → Cause) (x : A) (rest : Conditions Cause) (found : Option A) → first_holding rest ≡ option_map cause found
    → first_holding ((passes, cause x) ∷ rest) ≡ option_map cause (cond passes (Some x) found)
first_holding-map_step true cause x rest found same = refl
first_holding-map_step false cause x rest found same = same

-- a condition for each item: the cause of the first item that passes
pub first_holding-map : {A Cause : Type 0} (test : A → Bool) (cause : A → Cause) (xs : List A) → first_holding (map (λ x. (test x, cause x)) xs) ≡ option_map cause (find test xs)
first_holding-map test cause [] = refl
first_holding-map test cause (x ∷ xs) =
    first_holding-map_step (test x) cause x (map (λ each. (test each, cause each)) xs) (find test xs) (first_holding-map test cause xs)

pub holds_not : (a b : ℕ) → not (eqb a b) ≡ false → a ≡ b
holds_not a b none = eqb-true a b (not-false _ none)

pub skips_same : (a b : ℕ) → a ≡ b → not (eqb a b) ≡ false
skips_same a b same = grind arith

pub unless-ok : {Cause A : Type 0} (cause : Option Cause) (at value : A) → Ok value ≡ unless cause at → (cause ≡ None) × (value ≡ at)
unless-ok None at value same = (refl, cc)
unless-ok (Some cause) at value same = cc

pub unless-err : {Cause A : Type 0} (first : Option Cause) (at : A) (cause : Cause) → Err cause ≡ unless first at → first ≡ Some cause
unless-err None at cause same = cc
unless-err (Some other) at cause same = cc
