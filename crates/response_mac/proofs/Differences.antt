-- Octets that differ in no bit are one: what an accumulated `^` says.
use Rattle.std.{proofs.{Common.{◌≡◌, ℕ, ◌+◌, ◌%◌, ◌<◌, ◌↔◌, List, length, take, get_or, bit_or, bit_xor, refl, sym, ap, ◌∙◌, arith}, lemmas.{Nat.{le_or_l, le_or_r, Bits.{bit_at_xor, bit_at-zero, bit_at-lt, same_from_bits}}, List.{get_or-take, take-take, take_more_same}}}, specs.Int.{bit_at, Bits.{xor_self}}}

same_bit : (a b : ℕ) → a < 2 → b < 2 → (a + b) % 2 ≡ 0 → a ≡ b
same_bit a b a_small b_small even = omega arith

same_from_xor : (x y : ℕ) → bit_xor x y ≡ 0 → x ≡ y
same_from_xor x y zero_xor =
    same_from_bits x y (λ i. same_bit (bit_at x i) (bit_at y i) (bit_at-lt x i) (bit_at-lt y i)
    (sym (bit_at_xor x y i) ∙ (ap (λ (n : ℕ). bit_at n i) zero_xor ∙ bit_at-zero i)))

same_prefix : (i : ℕ) (xs ys : List ℕ) → take (i + 1) xs ≡ take (i + 1) ys → take i xs ≡ take i ys
same_prefix i xs ys same =
    sym (take-take i (i + 1) xs (omega arith)) ∙ (ap (take i) same ∙ take-take i (i + 1) ys (omega arith))

same_last : (i : ℕ) (xs ys : List ℕ) → take (i + 1) xs ≡ take (i + 1) ys → get_or xs i 0 ≡ get_or ys i 0
same_last i xs ys same =
    sym (get_or-take (i + 1) xs i 0 (omega arith))
    ∙ (ap (λ (octets : List ℕ). get_or octets i 0) same ∙ get_or-take (i + 1) ys i 0 (omega arith))

-- one octet more: there is no difference so far exactly where the octets so far are the same
pub no_difference_more : (difference i : ℕ) (xs ys : List ℕ) → i < length xs → i < length ys
    → (difference ≡ 0) ↔ (take i xs ≡ take i ys)
    → (bit_or difference (bit_xor (get_or xs i 0) (get_or ys i 0)) ≡ 0) ↔ (take (i + 1) xs ≡ take (i + 1) ys)
no_difference_more difference i xs ys in_xs in_ys so_far =
    let here = bit_xor (get_or xs i 0) (get_or ys i 0) in
    let before_is_zero : bit_or difference here ≡ 0 → difference ≡ 0 = λ none. omega (arith, le_or_l difference here) in
    let here_is_zero : bit_or difference here ≡ 0 → here ≡ 0 = λ none. omega (arith, le_or_r difference here) in (
      λ none. take_more_same xs ys i 0 in_xs in_ys (so_far.0 (before_is_zero none)) (same_from_xor _ _ (here_is_zero none)),
      λ same. rw (so_far.1 (same_prefix i xs ys same), same_last i xs ys same, xor_self) refl,
    )
