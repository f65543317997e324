-- Numerals and what `decimal` writes.
use Rattle.std.proofs.{Common.{◌≡◌, ◌≢◌, ℕ, ◌^◌, ◌<◌, ◌≤◌, List, length, get_or, decimal, IsUtf8, Result, Ok, Err, inl, inr, sym, subst, ap, ◌∙◌, arith}, lemmas.{Bool.{cases_lt}, Fmt.{decimal_nonempty, decimal_digit, first_decimal, digits_decimal, decimal-digits_value, IsAscii-from_digits}}}
use Rattle.std.{proofs.lemmas.{List.Elements.{All-from_get_or}, Result.{OkIff-at_ok, OkIff-at_err}, Str.{IsUtf8-from_ascii, Parse.{IsNumeralModel, numerals_by_value, tells_by_index, parse_plain, not_in_digits}}}, specs.{Char.{IsAsciiDigit}, Int.{IsInRange}, Result.{OkIff}, Str.Parse.{ParsesUnsigned, digits_value}}}
use Rattle.amt_values.specs.Numeral.{IsNumeral, numeral_value}

-- each octet is a digit, by its place
abbrev AreDigits : List ℕ → Type 0
AreDigits text = (i : ℕ) → i < length text → IsInRange 48 57 (get_or text i 0)

model : IsNumeralModel AreDigits (digits_value 10)
model = numerals_by_value AreDigits tells_by_index

AreDigits-from_numeral : (text : List ℕ) → IsNumeral text → AreDigits text
AreDigits-from_numeral text numeral = λ i h. numeral.digits i 0 h

first_digit : (n : ℕ) → n < 2 ^ 64 → get_or (decimal n) 0 0 ≡ 48 → length (decimal n) ≡ 1
first_digit n small zero_first =
    elim (cases_lt n 10) [
      | inl one ↦ ap length (decimal_digit n one)
      | inr more ↦ let first = first_decimal n (omega arith) small in absurd (omega arith)
    ]

pub IsNumeral-decimal : (n : ℕ) → n < 2 ^ 64 → IsNumeral (decimal n)
IsNumeral-decimal n small = record {
  some = decimal_nonempty n small;
  digits = All-from_get_or IsAsciiDigit (decimal n) 0 (digits_decimal model n small);
  no_leading_zero = first_digit n small;
}

-- a numeral is what `decimal` writes of its value
pub decimal-numeral_value : (text : List ℕ) → IsNumeral text → numeral_value text < 2 ^ 64 → decimal (numeral_value text) ≡ text
decimal-numeral_value text numeral small =
    decimal-digits_value model text (AreDigits-from_numeral text numeral) numeral.some numeral.no_leading_zero small

pub IsUtf8-from_numeral : (text : List ℕ) → IsNumeral text → IsUtf8 text
IsUtf8-from_numeral text numeral =
    IsUtf8-from_ascii text (IsAscii-from_digits text (model.to text (AreDigits-from_numeral text numeral)))

no_plus : (text : List ℕ) → IsNumeral text → get_or text 0 0 ≢ 43
no_plus text numeral =
    not_in_digits model text 43 (AreDigits-from_numeral text numeral) (λ h. omega arith) 0 numeral.some

-- `parse` of a numeral gives its value, where 64 bits hold it
pub parse-numeral : {E : Type 0} (text : List ℕ) (r : Result ℕ E) → IsNumeral text → ParsesUnsigned 64 10 text r
    → OkIff r (AreDigits text × (0 < length text) × (numeral_value text < 2 ^ 64)) (numeral_value text)
parse-numeral text r numeral parsed = parse_plain model 64 text r parsed (no_plus text numeral)

pub parsed_number : {E : Type 0} (text : List ℕ) (r : Result ℕ E) (number : ℕ) → IsNumeral text → ParsesUnsigned 64 10 text r
    → r ≡ Ok number → text ≡ decimal number
parsed_number text r number numeral parsed given =
    let read = OkIff-at_ok r _ (numeral_value text) number (parse-numeral text r numeral parsed) given in
    sym (ap decimal read.1 ∙ decimal-numeral_value text numeral read.0.2)

pub parsed_too_large : {E : Type 0} (text : List ℕ) (r : Result ℕ E) (e : E) → IsNumeral text → ParsesUnsigned 64 10 text r
    → r ≡ Err e → 2 ^ 64 ≤ numeral_value text
parsed_too_large text r e numeral parsed given =
    let refused = OkIff-at_err r _ (numeral_value text) e (parse-numeral text r numeral parsed) given in
    elim (cases_lt (numeral_value text) (2 ^ 64)) [
      | inl small ↦ absurd (refused (AreDigits-from_numeral text numeral, numeral.some, small))
      | inr large ↦ large
    ]

-- a text that is no numeral is not what `decimal` writes
pub no_number : {P : Type 0} (text : List ℕ) → (IsNumeral text → ⊥) → (number : ℕ) → number < 2 ^ 64 → text ≡ decimal number → P
no_number text refused number small same = absurd (refused (subst IsNumeral (sym same) (IsNumeral-decimal number small)))
