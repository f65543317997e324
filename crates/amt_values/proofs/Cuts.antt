-- A text is cut at the first octet of a kind in one way.
use Rattle.std.{proofs.{Common.{◌≡◌, ◌≢◌, ℕ, List, [], ◌∷◌, ◌++◌, All, refl, subst, rules}, lemmas.List.Elements.{All-from_recursion, recursion_from_All}}, specs.List.{AllByRecursion}}

-- no octet of the text is `at`
abbrev pub Lacks : ℕ → List ℕ → Type 0
Lacks at text = All (λ octet. octet ≢ at) text

abbrev LacksByRecursion : ℕ → List ℕ → Type 0
LacksByRecursion at text = AllByRecursion (λ octet. octet ≢ at) text

same_cut : (at : ℕ) (xs ys us vs : List ℕ) → LacksByRecursion at xs → LacksByRecursion at us → xs ++ at ∷ ys ≡ us ++ at ∷ vs
    → (xs ≡ us) × (ys ≡ vs)
same_cut at [] ys [] vs lacks_x lacks_u same = (refl, cc)
same_cut at [] ys (u ∷ us) vs lacks_x lacks_u same = let other : u ≡ at = cc in absurd (lacks_u.0 other)
same_cut at (x ∷ xs) ys [] vs lacks_x lacks_u same = absurd (lacks_x.0 cc)
same_cut at (x ∷ xs) ys (u ∷ us) vs lacks_x lacks_u same =
    let tail : xs ++ at ∷ ys ≡ us ++ at ∷ vs = cc in
    let rest = same_cut at xs ys us vs lacks_x.1 lacks_u.1 tail in
    let first : x ≡ u = cc in
    (rw (first, rest.0) refl, rest.1)

-- two cuts at the first `at` are the same
pub cut_once : (at : ℕ) (xs ys us vs : List ℕ) → Lacks at xs → Lacks at us → xs ++ at ∷ ys ≡ us ++ at ∷ vs → (xs ≡ us) × (ys ≡ vs)
cut_once at xs ys us vs lacks_x lacks_u same =
    same_cut at xs ys us vs (recursion_from_All (λ octet. octet ≢ at) xs lacks_x)
    (recursion_from_All (λ octet. octet ≢ at) us lacks_u) same

holds_it : (at : ℕ) (xs ys : List ℕ) → LacksByRecursion at (xs ++ at ∷ ys) → ⊥
holds_it at [] ys lacks = lacks.0 refl
holds_it at (x ∷ xs) ys lacks = holds_it at xs ys lacks.1

-- a text that has an `at` doesn't lack it
pub not_lacking : (at : ℕ) (text xs ys : List ℕ) → Lacks at text → text ≡ xs ++ at ∷ ys → ⊥
not_lacking at text xs ys lacks same =
    holds_it at xs ys (recursion_from_All (λ octet. octet ≢ at) (xs ++ at ∷ ys) (subst (Lacks at) same lacks))

parts_lack : (at : ℕ) (xs ys : List ℕ) → LacksByRecursion at (xs ++ ys) → LacksByRecursion at xs × LacksByRecursion at ys
parts_lack at [] ys lacks = (search rules, lacks)
parts_lack at (x ∷ xs) ys lacks = let rest = parts_lack at xs ys lacks.1 in ((lacks.0, rest.0), rest.1)

-- both parts of a text lack what it lacks
pub Lacks-parts : (at : ℕ) (xs ys : List ℕ) → Lacks at (xs ++ ys) → Lacks at xs × Lacks at ys
Lacks-parts at xs ys lacks =
    let parts = parts_lack at xs ys (recursion_from_All (λ octet. octet ≢ at) (xs ++ ys) lacks) in
    (All-from_recursion (λ octet. octet ≢ at) xs parts.0, All-from_recursion (λ octet. octet ≢ at) ys parts.1)

begins_with : (at : ℕ) (xs ys zs : List ℕ) (b : ℕ) → LacksByRecursion at xs → b ≢ at → xs ++ b ∷ ys ≡ at ∷ zs → ⊥
begins_with at [] ys zs b lacks other same = other cc
begins_with at (x ∷ xs) ys zs b lacks other same = lacks.0 cc

-- a text doesn't begin with an octet that it lacks up to another one
pub not_first : (at : ℕ) (xs ys zs : List ℕ) (b : ℕ) → Lacks at xs → b ≢ at → xs ++ b ∷ ys ≡ at ∷ zs → ⊥
not_first at xs ys zs b lacks other same =
    begins_with at xs ys zs b (recursion_from_All (λ octet. octet ≢ at) xs lacks) other same
