-- What the digits of a number say.
use Rattle.std.proofs.{Common.{◌≡◌, ℕ, ◌^◌, ◌<◌, List, decimal, sym, subst, ap, ◌∙◌}, lemmas.Fmt.{decimal_is_IsNumeral}}
use Rattle.amt_values.{specs.Numeral.{IsNumeral, numeral_value}, proofs.Numerals.{IsNumeral-decimal}}

pub value_of_number : (text : List ℕ) (number : ℕ) → number < 2 ^ 64 → text ≡ decimal number → numeral_value text ≡ number
value_of_number text number small same = ap numeral_value same ∙ (decimal_is_IsNumeral number small).1

pub numeral_of_number : (text : List ℕ) (number : ℕ) → number < 2 ^ 64 → text ≡ decimal number → IsNumeral text
numeral_of_number text number small same = subst IsNumeral (sym same) (IsNumeral-decimal number small)
