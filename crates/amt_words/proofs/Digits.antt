-- Words that are no flag, decimal digits among them.
use Rattle.std.{proofs.{Common.{◌≡◌, ◌<◌, ◌≤◌, ◌==◌, ◌^◌, subst, ℕ, ℤ, Bool, true, false, [], ◌∷◌, Some, None, refl, sym, arith}, lemmas.{Int.{ints}, Bool.{ne_eqb}, Str.Parse.{digit_from_value}}}, specs.{Prelude.{pos, FitsSigned, ◌≤ℤ◌}, Str.{bytes_eq, Parse.{IsNumeral, digits_value, signed_digits_value, without_leading_sign}}, Char.{digit_value}, Int.{w64}}}
use Rattle.clap.{specs.{Lexer.{strip_byte}, ValueTests.{is_signed_in}, Words.{IsSignedIn, Text, without_minus}, declared.builder.value_parser.ValueParser.TheVariants.{Signed}}, proofs.ValueTestLemmas.{Accepts-accepts}}
use Rattle.amt_words.specs.Line.{IsNumberIn, IsPlainWord, number_of}

-- the word is no flag
abbrev pub IsPlain : Text → Type 0
IsPlain word = (strip_byte 45 word ≡ None) × (bytes_eq word (45 ∷ 45 ∷ []) ≡ false)

abbrev pub Passes : ℕ → ℕ → Text → Type 0
Passes least most text = is_signed_in (pos least) (pos most) text ≡ true

digit_is_no : (d x : ℕ) → digit_value d < 10 → (x < 48) → (d == x) ≡ false
digit_is_no d x h low = ne_eqb _ _ (λ e. omega (arith, digit_from_value d h))

-- decimal digits are no flag, and have no sign
pub digits_plain : (text : Text) → IsNumeral 10 text → IsPlain text
digits_plain [] h = absurd (omega arith)
digits_plain (d ∷ ds) h =
    let minus = digit_is_no d 45 h.1.0 (omega arith) in
    (rw minus refl, rw minus refl)

pub digits_number : (text : Text) → IsNumeral 10 text → number_of (without_minus text) ≡ digits_value 10 text
digits_number [] h = absurd (omega arith)
digits_number (d ∷ ds) h =
    let minus = digit_is_no d 45 h.1.0 (omega arith) in
    let plus = digit_is_no d 43 h.1.0 (omega arith) in
    rw (minus, plus) refl

digits_sign : (text : Text) → IsNumeral 10 text → (without_leading_sign text ≡ text) × (signed_digits_value 10 text ≡ pos (digits_value 10 text))
digits_sign [] h = absurd (omega arith)
digits_sign (d ∷ ds) h =
    let minus = digit_is_no d 45 h.1.0 (omega arith) in
    let plus = digit_is_no d 43 h.1.0 (omega arith) in
    (rw (minus, plus) refl, rw (minus, plus) refl)

digits_within : (least most : ℕ) (text : Text) → most < 2 ^ 63 → IsNumeral 10 text → least ≤ digits_value 10 text → digits_value 10 text ≤ most
    → IsSignedIn (pos least) (pos most) text
digits_within least most text fits h low high =
    let is = digits_sign text h in (
      subst (IsNumeral 10) (sym is.0) h,
      subst (FitsSigned w64) (sym is.1) (record { sfits = omega arith }),
      subst (λ (z : ℤ). pos least ≤ℤ z) (sym is.1) (omega (arith, ints)),
      subst (λ (z : ℤ). z ≤ℤ pos most) (sym is.1) (omega (arith, ints)),
    )

digits_pass : (least most : ℕ) (text : Text) → most < 2 ^ 63 → IsNumeral 10 text → least ≤ digits_value 10 text → digits_value 10 text ≤ most
    → Passes least most text
digits_pass least most text fits h low high =
    Accepts-accepts false (Signed (pos least) (pos most)) text (digits_within least most text fits h low high)

-- a word that doesn't begin with a hyphen is no flag
pub plain_word : (word : Text) → IsPlainWord word → IsPlain word
plain_word [] h = (refl, refl)
plain_word (c ∷ cs) h = go (c == 45) refl
  where
    go : (b : Bool) → (c == 45) ≡ b → IsPlain (c ∷ cs)
    go true e =
        let no : Some cs ≡ None = rw e at h in
        cc
    go false e = (rw e refl, rw e refl)

-- decimal digits within limits are a value of an argument with these limits
pub number_passes : (least most : ℕ) (text : Text) → most < 2 ^ 63 → IsNumberIn least most text → Passes least most text
number_passes least most text fits h = digits_pass least most text fits h.0 h.1 h.2
