-- What a parse found for an argument.
use Rattle.std.specs.Prelude.{◌≡◌, ◌⊎◌, ◌<◌, ◌^◌, ℕ, Some, None, pos, true, is_some}
use Rattle.clap.specs.{Words.{IsSignedIn, Text, first_value, one_text, without_minus}, declared.parser.matches.Found.{Found}}

-- a text was given for the argument, a number from least to most; clap drops the minus of -0
abbrev pub HasNumber : Found → Text → ℕ → ℕ → Type 0
HasNumber found id least most = (text : Text) × (one_text found id ≡ Some (without_minus text))
    × IsSignedIn (pos least) (pos most) text

-- the same, within some limits of `u32`
abbrev pub HasSomeNumber : Found → Text → Type 0
HasSomeNumber found id =
    (least : ℕ) × (most : ℕ) × (most < 2 ^ 32) × HasNumber found id least most

-- the same, or nothing was given for the argument
abbrev pub HasNumberIfAny : Found → Text → ℕ → ℕ → Type 0
HasNumberIfAny found id least most = (one_text found id ≡ None) ⊎ HasNumber found id least most

-- a word was given for the argument
abbrev pub HasWord : Found → Text → Type 0
HasWord found id = is_some (first_value found id) ≡ true
