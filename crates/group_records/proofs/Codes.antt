-- The codes of times: values ascend with codes, and a value shifted back has its code's mantissa.
use Rattle.std.proofs.Common.{◌≡◌, ◌≢◌, ℕ, zero, suc, ◌+◌, ◌*◌, ◌/◌, ◌%◌, ◌^◌, ◌<◌, ◌≤◌, ◌⊎◌, Bool, true, false, cond, eqb, bit_and, bit_or, Option, Some, unwrap_or, inl, inr, refl, sym, ap, ◌∙◌, arith}
use Rattle.std.{proofs.{Math.Nat.{mul_assoc, mul-le-mul, mul-lt-mul_of_pos_right, mul-div_cancel, pow-le-pow_right}, lemmas.{Bool.{eq-eqb, eqb-true, lt-ltb, le-ltb, cases_lt, cases_order}, Nat.{and_mask, or_shifted, shl_whole, pow-add, mod_below}}}, specs.List.{find, range_with_len}}
use Rattle.group_records.specs.{declared.family.Family.{Family, TheVariants.{V4, V6}}, Code.{code_count, mantissa_bits, mantissa_of, exponent_of, code_value, code_with, code_of}}

-- a mantissa with a bit set above it, shifted, is at least that bit shifted by 3, and less than another that is shifted more
shift_least : (above mantissa exponent : ℕ) → above * 8 ≤ (above + mantissa) * 2 ^ (exponent + 3)
shift_least above mantissa exponent = mul-le-mul (omega arith) (pow-le-pow_right {n = 2} (omega arith) {i = 3} {j = exponent + 3} (omega arith))

shift_positive : (shift : ℕ) → 0 < 2 ^ shift
shift_positive shift = pow-le-pow_right {n = 2} (omega arith) {i = 0} {j = shift} (omega arith)

shift_less : (above first second low high : ℕ) → first < above → low < high → (above + first) * 2 ^ low < (above + second) * 2 ^ high
shift_less above first second low high small below =
    let less : (above + first) * 2 ^ low < above * 2 * 2 ^ low = mul-lt-mul_of_pos_right (omega arith) (shift_positive low) in
    let next : above * 2 * 2 ^ low ≡ above * 2 ^ (1 + low) = mul_assoc above 2 (2 ^ low) ∙ ap (λ (shift : ℕ). above * shift) (sym (pow-add 2 1 low)) in
    let most : above * 2 ^ (1 + low) ≤ (above + second) * 2 ^ high =
    mul-le-mul (omega arith) (pow-le-pow_right {n = 2} (omega arith) {i = 1 + low} {j = high} (omega arith)) in
    omega (arith, less, next, most)

shift_ascends : (above first second shift : ℕ) → first < second → (above + first) * 2 ^ shift < (above + second) * 2 ^ shift
shift_ascends above first second shift below = mul-lt-mul_of_pos_right (omega arith) (shift_positive shift)

-- the shift as masks and shifts of words give it
significand : (bits code : ℕ) → bits ≤ 12
    → bit_or (1 * 2 ^ bits % 2 ^ 32) (code % 2 ^ bits) * 2 ^ (bit_and (code / 2 ^ bits) 7 + 3) % 2 ^ 32
    ≡ (2 ^ bits + code % 2 ^ bits) * 2 ^ (code / 2 ^ bits % 8 + 3)
significand bits code few =
    let below = mod_below code (2 ^ bits) (shift_positive bits) in
    let one : 1 * 2 ^ bits ≡ 2 ^ bits = omega arith in
    let bit : 1 * 2 ^ bits % 2 ^ 32 ≡ 1 * 2 ^ bits = shl_whole 1 1 bits 32 (omega arith) (omega arith) in
    let both = or_shifted 1 bits (code % 2 ^ bits) below in
    let exponent = and_mask (code / 2 ^ bits) 3 in
    let fits : 2 ^ bits + code % 2 ^ bits < 2 ^ (1 + bits) = omega (arith, below, pow-add 2 1 bits) in
    let whole = shl_whole (2 ^ bits + code % 2 ^ bits) (1 + bits) (code / 2 ^ bits % 8 + 3) 32 fits (omega arith) in
    rw (bit, both, one, exponent, whole) refl

-- the values of both halves
lower_value : (family : Family) (code : ℕ) → code < code_count family / 2 → code_value family code ≡ code
lower_value family code lower = rw (lt-ltb code (code_count family / 2) lower) refl

upper_value : (family : Family) (code : ℕ) → code_count family / 2 ≤ code
    → code_value family code ≡ (2 ^ mantissa_bits family + mantissa_of family code) * 2 ^ (exponent_of family code + 3)
upper_value family code upper = rw (le-ltb code (code_count family / 2) upper) refl

few_bits : (family : Family) → mantissa_bits family ≤ 12
few_bits V4 = omega arith
few_bits V6 = omega arith

pub masked-code_value : (family : Family) (bits code : ℕ) → bits ≡ mantissa_bits family → code_count family / 2 ≤ code
    → bit_or (1 * 2 ^ bits % 2 ^ 32) (mantissa_of family code) * 2 ^ (bit_and (code / 2 ^ bits) 7 + 3) % 2 ^ 32 ≡ code_value family code
masked-code_value family bits code same upper =
    rw same (significand (mantissa_bits family) code (few_bits family) ∙ sym (upper_value family code upper))

upper_value-least : (family : Family) (code : ℕ) → code_count family / 2 ≤ code → code_count family / 2 ≤ code_value family code
upper_value-least V4 code upper = rw (upper_value V4 code upper) (shift_least 16 (mantissa_of V4 code) (exponent_of V4 code))
upper_value-least V6 code upper = rw (upper_value V6 code upper) (shift_least 4096 (mantissa_of V6 code) (exponent_of V6 code))

-- of two codes of the upper half the greater has the greater exponent, or the same and the greater mantissa
parts_ascend : (family : Family) (low high : ℕ) → low < high → code_count family / 2 ≤ low → high < code_count family
    → (exponent_of family low < exponent_of family high) ⊎ ((exponent_of family low ≡ exponent_of family high) × (mantissa_of family low < mantissa_of family high))
parts_ascend V4 low high less upper small = elim (cases_lt (low / 16 % 8) (high / 16 % 8)) [
  | inl below ↦ inl below
  | inr same ↦ inr (omega arith, omega arith)
]
parts_ascend V6 low high less upper small = elim (cases_lt (low / 4096 % 8) (high / 4096 % 8)) [
  | inl below ↦ inl below
  | inr same ↦ inr (omega arith, omega arith)
]

mantissa_of-small : (family : Family) (code : ℕ) → mantissa_of family code < 2 ^ mantissa_bits family
mantissa_of-small family code = mod_below code (2 ^ mantissa_bits family) (shift_positive (mantissa_bits family))

upper_ascends : (family : Family) (low high : ℕ) → low < high → code_count family / 2 ≤ low → high < code_count family
    → code_value family low < code_value family high
upper_ascends family low high less upper small =
    let above = 2 ^ mantissa_bits family in
    let first = mantissa_of family low in
    let second = mantissa_of family high in
    let reached : code_count family / 2 ≤ high = omega arith in
    rw (upper_value family low upper, upper_value family high reached) (elim (parts_ascend family low high less upper small) [
      | inl below ↦ shift_less above first second (exponent_of family low + 3) (exponent_of family high + 3) (mantissa_of-small family low) (omega arith)
      | inr (same, below) ↦ rw same (shift_ascends above first second (exponent_of family high + 3) below)
    ])

-- a greater code has a greater value
ascends : (family : Family) (low high : ℕ) → low < high → high < code_count family → code_value family low < code_value family high
ascends family low high less small = elim (cases_lt high (code_count family / 2)) [
  | inl lower ↦ rw (lower_value family low (omega arith), lower_value family high lower) less
  | inr upper ↦ elim (cases_lt low (code_count family / 2)) [
    | inl lower ↦ let least = upper_value-least family high upper in rw (lower_value family low lower) (omega arith)
    | inr both ↦ upper_ascends family low high less both small
  ]
]

-- no two codes stand for one value
pub same_code : (family : Family) (a b : ℕ) → a < code_count family → b < code_count family → code_value family a ≡ code_value family b → a ≡ b
same_code family a b a_small b_small same =
    elim (cases_order a b) [
      | inl one ↦ one
      | inr (inl less) ↦ let lower = ascends family a b less b_small in absurd (omega arith)
      | inr (inr more) ↦ let higher = ascends family b a more a_small in absurd (omega arith)
    ]

-- the code of a value of the lower half is the value
pub lower_code : (family : Family) (value code : ℕ) → value < code_count family / 2 → code < code_count family → code_value family code ≡ value → value ≡ code
lower_code family value code lower small stands = same_code family value code (omega arith) small (lower_value family value lower ∙ sym stands)

-- the exponent and the mantissa of a code of the upper half
record Parts (family : Family) (shift code : ℕ) : Type 0 where
  pub upper : code_count family / 2 ≤ code
  pub exponent : exponent_of family code ≡ shift
  pub whole : code_with family shift (mantissa_of family code) ≡ code

-- the codes of one exponent follow one another
parts_between : (family : Family) (exponent code : ℕ) → code_with family exponent 0 ≤ code → code < code_with family (exponent + 1) 0 → exponent < 8
    → Parts family exponent code
parts_between V4 exponent code from to small = record { upper = omega arith; exponent = omega arith; whole = omega arith }
parts_between V6 exponent code from to small = record { upper = omega arith; exponent = omega arith; whole = omega arith }

-- a bit above the mantissa is none of it
mantissa_of-above : (family : Family) (code : ℕ) → mantissa_of family (2 ^ mantissa_bits family + mantissa_of family code) ≡ mantissa_of family code
mantissa_of-above V4 code = omega arith
mantissa_of-above V6 code = omega arith

-- a code is the one of its exponent and of the mantissa that its value has when it is shifted back
code_with-shifted : (family : Family) (exponent code : ℕ) → code_with family exponent 0 ≤ code → code < code_with family (exponent + 1) 0 → exponent < 8
    → code_with family exponent (mantissa_of family (code_value family code / 2 ^ (exponent + 3))) ≡ code
code_with-shifted family exponent code from to small =
    let parts = parts_between family exponent code from to small in
    let above = 2 ^ mantissa_bits family in
    let value : code_value family code ≡ (above + mantissa_of family code) * 2 ^ (exponent + 3) =
    upper_value family code parts.upper ∙ ap (λ (e : ℕ). (above + mantissa_of family code) * 2 ^ (e + 3)) parts.exponent in
    let back = mul-div_cancel (above + mantissa_of family code) (shift_positive (exponent + 3)) in
    let mantissa = mantissa_of-above family code in
    rw (value, back, mantissa) parts.whole

-- where the one code of an exponent doesn't stand for the value, none of that exponent does
pub next_exponent : (family : Family) (exponent value tried code : ℕ) → exponent < 8 → tried ≡ code_with family exponent (mantissa_of family (value / 2 ^ (exponent + 3)))
    → code_value family tried ≢ value → code_value family code ≡ value → code_with family exponent 0 ≤ code → code_with family (exponent + 1) 0 ≤ code
next_exponent family exponent value tried code small is other stands from = elim (cases_lt code (code_with family (exponent + 1) 0)) [
  | inl before ↦ let shifted = code_with-shifted family exponent code from before small in
      let same : tried ≡ code = is ∙ ap (λ (number : ℕ). code_with family exponent (mantissa_of family (number / 2 ^ (exponent + 3)))) (sym stands) ∙ shifted in
      absurd (other (ap (code_value family) same ∙ stands))
  | inr after ↦ after
]

find_here_or_later : (here : Bool) (start code : ℕ) (later : Option ℕ) → (here ≡ true → start ≡ code) → (here ≡ false → later ≡ Some code)
    → cond here (Some start) later ≡ Some code
find_here_or_later true start code later hit missed = ap Some (hit refl)
find_here_or_later false start code later hit missed = missed refl

-- the one number of a range that passes a test is found
find_only : (test : ℕ → Bool) (code limit : ℕ) → test code ≡ true → code < limit → ((other : ℕ) → other < limit → test other ≡ true → other ≡ code)
    → (n start : ℕ) → start + n ≡ limit → start ≤ code → find test (range_with_len start n) ≡ Some code
find_only test code limit passes small only zero start ends from = absurd (omega arith)
find_only test code limit passes small only (suc n) start ends from =
    let later : test start ≡ false → start < code = λ (missed : test start ≡ false). elim (cases_lt start code) [
      | inl before ↦ before
      | inr reached ↦ let same : start ≡ code = omega arith in cc
    ] in
    find_here_or_later (test start) start code _ (only start (omega arith))
    (λ missed. let next = later missed in find_only test code limit passes small only n (start + 1) (omega arith) (omega arith))

-- the code of a code's value is that code
pub code_of-code_value : (family : Family) (code : ℕ) → code < code_count family → code_of family (code_value family code) ≡ code
unfolding code_of
code_of-code_value family code small =
    let value = code_value family code in
    ap (λ (found : Option ℕ). unwrap_or found 0)
    (find_only (λ (other : ℕ). eqb (code_value family other) value) code (code_count family) (eq-eqb value value refl) small
    (λ other other_small same. same_code family other code other_small small (eqb-true (code_value family other) value same)) (code_count family) 0 (omega arith) (omega arith))
