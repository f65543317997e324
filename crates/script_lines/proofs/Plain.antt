-- Whether a line is plain, octet by octet.
use Rattle.std.{proofs.{Common.{◌<◌, ◌≤◌, ◌↔◌, ◌+◌, ℕ, Bool, true, false, ◌&&◌, IsTrue, List, [], ◌∷◌, ◌++◌, length, take, get_or, subst, sym, rules}, lemmas.List.{take_more, take_all, Elements.{All-from_recursion, recursion_from_All}}}, specs.{Int.{IsInRange}, List.{AllByRecursion}}}
use Rattle.script_lines.specs.Lines.{IsPlain}

abbrev is_glyph : ℕ → Type 0
is_glyph octet = IsInRange 32 126 octet

both_parts : (line : List ℕ) (octet : ℕ) → AllByRecursion is_glyph line → is_glyph octet → AllByRecursion is_glyph (line ++ octet ∷ [])
both_parts [] octet plain glyph = (glyph, tt)
both_parts (first ∷ rest) octet plain glyph = (plain.0, both_parts rest octet plain.1 glyph)

front_part : (line : List ℕ) (octet : ℕ) → AllByRecursion is_glyph (line ++ octet ∷ []) → AllByRecursion is_glyph line
front_part [] octet plain = tt
front_part (first ∷ rest) octet plain = (plain.0, front_part rest octet plain.1)

last_part : (line : List ℕ) (octet : ℕ) → AllByRecursion is_glyph (line ++ octet ∷ []) → is_glyph octet
last_part [] octet plain = plain.0
last_part (first ∷ rest) octet plain = last_part rest octet plain.1

plain_more : (plain glyph : Bool) (line : List ℕ) (octet : ℕ) → (IsTrue plain ↔ IsPlain line) → (IsTrue glyph ↔ is_glyph octet)
    → IsTrue (plain && glyph) ↔ IsPlain (line ++ octet ∷ [])
plain_more true true line octet so_far next = (
  λ both. All-from_recursion is_glyph (line ++ octet ∷ []) (both_parts line octet (recursion_from_All is_glyph line (so_far.0 both)) (next.0 both)),
  λ all. so_far.1 (All-from_recursion is_glyph line (front_part line octet (recursion_from_All is_glyph (line ++ octet ∷ []) all))),
)
plain_more true false line octet so_far next = (
  λ none. (let never : ⊥ = search (rules, none) in absurd never),
  λ all. next.1 (last_part line octet (recursion_from_All is_glyph (line ++ octet ∷ []) all)),
)
plain_more false true line octet so_far next = (
  λ none. (let never : ⊥ = search (rules, none) in absurd never),
  λ all. so_far.1 (All-from_recursion is_glyph line (front_part line octet (recursion_from_All is_glyph (line ++ octet ∷ []) all))),
)
plain_more false false line octet so_far next = (
  λ none. (let never : ⊥ = search (rules, none) in absurd never),
  λ all. so_far.1 (All-from_recursion is_glyph line (front_part line octet (recursion_from_All is_glyph (line ++ octet ∷ []) all))),
)

-- one octet more was tried
pub plain_so_far : (plain glyph : Bool) (line : List ℕ) (i d : ℕ) → i < length line → (IsTrue plain ↔ IsPlain (take i line)) → (IsTrue glyph ↔ IsInRange 32 126 (get_or line i d))
    → IsTrue (plain && glyph) ↔ IsPlain (take (i + 1) line)
plain_so_far plain glyph line i d inside so_far next =
    subst (λ (front : List ℕ). IsTrue (plain && glyph) ↔ IsPlain front) (sym (take_more line i d inside)) (plain_more plain glyph (take i line) (get_or line i d) so_far next)

-- all were tried
pub plain_whole : (plain : Bool) (line : List ℕ) (n : ℕ) → length line ≤ n → (IsTrue plain ↔ IsPlain (take n line)) → IsTrue plain ↔ IsPlain line
plain_whole plain line n past so_far = subst (λ (front : List ℕ). IsTrue plain ↔ IsPlain front) (take_all n line past) so_far
