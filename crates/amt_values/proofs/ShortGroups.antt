-- The one short text of a group is what std writes of it.
use Rattle.std.proofs.Common.{◌≡◌, ◌≢◌, ℕ, ◌+◌, ◌*◌, ◌/◌, ◌%◌, ◌^◌, ◌<◌, ◌≤◌, List, [], ◌∷◌, length, slice_index, All, inl, inr, refl, sym, ap, ◌∙◌, arith, le-leb, lt-ltb, le-ltb}
use Rattle.std.{proofs.lemmas.{Bool.{cases_lt, lt-leb, Decides.{nat_tests}}, List.Elements.{All-nil, All-cons, All-drop, All-head, All-tail}}, specs.{Char.{digit_char, digit_value, IsNotAsciiUppercase}, Net.{Grammar.{IsGroup}, Text.{hex, leading_zero_digits}}}}
use Rattle.amt_values.specs.Canonical.{IsShortGroup}

-- what is written, by the number of digits
hex-one : (n : ℕ) → n < 16 → hex n ≡ digit_char (n % 16) ∷ []
unfolding hex
hex-one n small = rw (lt-leb 0x1000 n (omega arith), lt-leb 0x100 n (omega arith), lt-leb 0x10 n (omega arith)) refl

hex-two : (n : ℕ) → 16 ≤ n → n < 0x100 → hex n ≡ digit_char (n / 0x10 % 16) ∷ digit_char (n % 16) ∷ []
unfolding hex
hex-two n large small = rw (lt-leb 0x1000 n (omega arith), lt-leb 0x100 n small, le-leb 0x10 n large) refl

hex-three : (n : ℕ) → 0x100 ≤ n → n < 0x1000 → hex n ≡ digit_char (n / 0x100 % 16) ∷ digit_char (n / 0x10 % 16) ∷ digit_char (n % 16) ∷ []
unfolding hex
hex-three n large small = rw (lt-leb 0x1000 n small, le-leb 0x100 n large) refl

hex-four : (n : ℕ) → 0x1000 ≤ n → hex n ≡ digit_char (n / 0x1000) ∷ digit_char (n / 0x100 % 16) ∷ digit_char (n / 0x10 % 16) ∷ digit_char (n % 16) ∷ []
unfolding hex
hex-four n large = rw (le-leb 0x1000 n large) refl

-- a digit that is no capital is the one that is written
digit_again : (c : ℕ) → digit_value c < 16 → IsNotAsciiUppercase c → digit_char (digit_value c) ≡ c
digit_again c digit lower = grind (arith, nat_tests)

only_zero : (c : ℕ) → digit_value c ≡ 0 → c ≡ 48
only_zero c zero = grind (arith, nat_tests)

-- the digits of a text, each no capital
record AreLower (c : ℕ) (rest : List ℕ) : Type 0 where
  first : IsNotAsciiUppercase c
  more : All IsNotAsciiUppercase rest

lower : (c : ℕ) (rest : List ℕ) → All IsNotAsciiUppercase (c ∷ rest) → AreLower c rest
lower c rest all = record { first = All-head IsNotAsciiUppercase c rest all; more = All-tail IsNotAsciiUppercase c rest all }

-- the digit c writes d
written : (c d : ℕ) → digit_value c < 16 → IsNotAsciiUppercase c → d ≡ digit_value c → digit_char d ≡ c
written c d digit low same = ap digit_char same ∙ digit_again c digit low

-- a longer text begins with no zero
not_zero : (c : ℕ) (rest : List ℕ) → (c ≡ 48 → length (c ∷ rest) ≡ 1) → 0 < length rest → 1 ≤ digit_value c
not_zero c rest no_leading_zero longer =
    elim (cases_lt (digit_value c) 1) [
      | inl zero ↦ absurd (omega (arith, no_leading_zero (only_zero c (omega arith))))
      | inr some ↦ some
    ]

pub short_only : (text : List ℕ) (n : ℕ) → IsShortGroup text n → text ≡ hex n
short_only [] n h = absurd (omega (arith, h.writes.0.0.0))
short_only (a ∷ []) n h =
    let low_a = lower a [] h.lower_case in
    let digit_a = h.writes.0.0.1.0 in
    let value : n ≡ digit_value a = omega (arith, h.writes.0.1) in
    let last = written a (n % 16) digit_a low_a.first (omega (arith, digit_a, value)) in
    sym (hex-one n (omega (arith, digit_a, value)) ∙ ap (λ (c : ℕ). c ∷ []) last)
short_only (a ∷ b ∷ []) n h =
    let low_a = lower a (b ∷ []) h.lower_case in
    let low_b = lower b [] low_a.more in
    let digit_a = h.writes.0.0.1.0 in
    let digit_b = h.writes.0.0.1.1.0 in
    let value : n ≡ digit_value a * 16 + digit_value b = omega (arith, h.writes.0.1) in
    let some = not_zero a (b ∷ []) h.no_leading_zero (omega arith) in
    let first = written a (n / 0x10 % 16) digit_a low_a.first (omega (arith, digit_a, digit_b, value)) in
    let last = written b (n % 16) digit_b low_b.first (omega (arith, digit_b, value)) in
    sym (hex-two n (omega (arith, some, value)) (omega (arith, digit_a, digit_b, value)) ∙ rw (first, last) refl)
short_only (a ∷ b ∷ c ∷ []) n h =
    let low_a = lower a (b ∷ c ∷ []) h.lower_case in
    let low_b = lower b (c ∷ []) low_a.more in
    let low_c = lower c [] low_b.more in
    let digit_a = h.writes.0.0.1.0 in
    let digit_b = h.writes.0.0.1.1.0 in
    let digit_c = h.writes.0.0.1.1.1.0 in
    let value : n ≡ digit_value a * 256 + (digit_value b * 16 + digit_value c) = omega (arith, h.writes.0.1) in
    let some = not_zero a (b ∷ c ∷ []) h.no_leading_zero (omega arith) in
    let first = written a (n / 0x100 % 16) digit_a low_a.first (omega (arith, digit_a, digit_b, digit_c, value)) in
    let second = written b (n / 0x10 % 16) digit_b low_b.first (omega (arith, digit_b, digit_c, value)) in
    let last = written c (n % 16) digit_c low_c.first (omega (arith, digit_c, value)) in
    sym (hex-three n (omega (arith, some, value)) (omega (arith, digit_a, digit_b, digit_c, value)) ∙ rw (first, second, last) refl)
short_only (a ∷ b ∷ c ∷ d ∷ []) n h =
    let low_a = lower a (b ∷ c ∷ d ∷ []) h.lower_case in
    let low_b = lower b (c ∷ d ∷ []) low_a.more in
    let low_c = lower c (d ∷ []) low_b.more in
    let low_d = lower d [] low_c.more in
    let digit_a = h.writes.0.0.1.0 in
    let digit_b = h.writes.0.0.1.1.0 in
    let digit_c = h.writes.0.0.1.1.1.0 in
    let digit_d = h.writes.0.0.1.1.1.1.0 in
    let value : n ≡ digit_value a * 4096 + (digit_value b * 256 + (digit_value c * 16 + digit_value d)) = omega (arith, h.writes.0.1) in
    let some = not_zero a (b ∷ c ∷ d ∷ []) h.no_leading_zero (omega arith) in
    let first = written a (n / 0x1000) digit_a low_a.first (omega (arith, digit_a, digit_b, digit_c, digit_d, value)) in
    let second = written b (n / 0x100 % 16) digit_b low_b.first (omega (arith, digit_b, digit_c, digit_d, value)) in
    let third = written c (n / 0x10 % 16) digit_c low_c.first (omega (arith, digit_c, digit_d, value)) in
    let last = written d (n % 16) digit_d low_d.first (omega (arith, digit_d, value)) in
    sym (hex-four n (omega (arith, some, value)) ∙ rw (first, second, third, last) refl)
short_only (a ∷ b ∷ c ∷ d ∷ e ∷ rest) n h = absurd (omega (arith, h.writes.1))

digit_value-digit_char : (d : ℕ) → d < 16 → digit_value (digit_char d) ≡ d
digit_value-digit_char d small = grind (arith, nat_tests)

IsGroup-hex : (n : ℕ) → n < 2 ^ 16 → IsGroup (hex n) n
unfolding hex
IsGroup-hex n fits =
    let a = digit_value-digit_char (n / 0x1000) (omega arith) in
    let b = digit_value-digit_char (n / 0x100 % 16) (omega arith) in
    let c = digit_value-digit_char (n / 0x10 % 16) (omega arith) in
    let d = digit_value-digit_char (n % 16) (omega arith) in
    elim (cases_lt n 0x1000) [
      | inr four ↦ rw (le-leb _ n four) (omega arith)
      | inl h₃ ↦ elim (cases_lt n 0x100) [
        | inr three ↦ rw (lt-leb _ n h₃, le-leb _ n three) (omega arith)
        | inl h₂ ↦ elim (cases_lt n 0x10) [
          | inr two ↦ rw (lt-leb _ n h₃, lt-leb _ n h₂, le-leb _ n two) (omega arith)
          | inl h₁ ↦ rw (lt-leb _ n h₃, lt-leb _ n h₂, lt-leb _ n h₁) (omega arith)
        ]
      ]
    ]

first_digit : (d : ℕ) → 1 ≤ d → d < 16 → digit_char d ≢ 48
first_digit d some small = λ same. grind (arith, nat_tests)

no_leading_zero-hex : (n : ℕ) → n < 2 ^ 16 → slice_index (hex n) 0 ≡ 48 → length (hex n) ≡ 1
no_leading_zero-hex n fits same =
    let first : List ℕ → ℕ = λ (text : List ℕ). slice_index text 0 in
    elim (cases_lt n 0x10) [
      | inl one ↦ ap (λ (text : List ℕ). length text) (hex-one n one)
      | inr h₁ ↦ elim (cases_lt n 0x100) [
        | inl two ↦ absurd (first_digit _ (omega arith) (omega arith) (sym (ap first (hex-two n h₁ two)) ∙ same))
        | inr h₂ ↦ elim (cases_lt n 0x1000) [
          | inl three ↦ absurd (first_digit _ (omega arith) (omega arith) (sym (ap first (hex-three n h₂ three)) ∙ same))
          | inr four ↦ absurd (first_digit _ (omega arith) (omega arith) (sym (ap first (hex-four n four)) ∙ same))
        ]
      ]
    ]

lower_digit : (d : ℕ) → d < 16 → IsNotAsciiUppercase (digit_char d)
lower_digit d small =
    elim (cases_lt d 10) [
      | inl low ↦ inl (rw (lt-ltb d 10 low) (omega arith))
      | inr high ↦ inr (rw (le-ltb d 10 high) (omega arith))
    ]

lower_more : (d : ℕ) (text : List ℕ) → d < 16 → All IsNotAsciiUppercase text → All IsNotAsciiUppercase (digit_char d ∷ text)
lower_more d text small rest = All-cons IsNotAsciiUppercase (digit_char d) text (lower_digit d small) rest

lower_case-hex : (n : ℕ) → n < 2 ^ 16 → All IsNotAsciiUppercase (hex n)
unfolding hex
lower_case-hex n fits =
    let a = n / 0x1000 in
    let b = n / 0x100 % 16 in
    let c = n / 0x10 % 16 in
    let d = n % 16 in
    let one = lower_more d [] (omega arith) (All-nil IsNotAsciiUppercase) in
    let two = lower_more c (digit_char d ∷ []) (omega arith) one in
    let three = lower_more b (digit_char c ∷ digit_char d ∷ []) (omega arith) two in
    let four = lower_more a (digit_char b ∷ digit_char c ∷ digit_char d ∷ []) (omega arith) three in
    All-drop IsNotAsciiUppercase (leading_zero_digits n) (digit_char a ∷ digit_char b ∷ digit_char c ∷ digit_char d ∷ []) four

pub IsShortGroup-hex : (n : ℕ) → n < 2 ^ 16 → IsShortGroup (hex n) n
IsShortGroup-hex n fits = record {
  writes = IsGroup-hex n fits;
  no_leading_zero = no_leading_zero-hex n fits;
  lower_case = lower_case-hex n fits;
}
