-- Numbers as decimal digits.
use Rattle.std.specs.{Prelude.{◌≡◌, ℕ, ◌<◌, List, length, slice_index, All}, Char.{IsAsciiDigit}, Str.Parse.{digits_value}}

-- decimal digits, at least one, without a sign, and without a leading zero unless 0 is the only
-- digit
pub record IsNumeral (text : List ℕ) : Type 0 where
  pub some : 0 < length text
  pub digits : All IsAsciiDigit text
  pub no_leading_zero : slice_index text 0 ≡ 48 → length text ≡ 1

-- the number that the digits write, however many they are
abbrev pub numeral_value : List ℕ → ℕ
numeral_value text = digits_value 10 text
