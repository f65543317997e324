-- What a row asks, and the text that it wants for an answer.
use Rattle.std.specs.Prelude.{◌≡◌, ℕ, List, [], ◌∷◌, ◌++◌, flat_map}
use Rattle.amt_values.specs.Numeral.{IsNumeral}
use Rattle.script_lines.specs.{Form.{IsHexText, IsNumberText}, Shape.{HasTwoFields}, Texts.{hex_text}}
use Rattle.amt_vectors.specs.declared.kind.RowKind.TheVariants as kinds
use Rattle.amt_vectors.specs.{declared.row.{Question.{Question, TheVariants.{Hmac, Sum, Decode, Code4, Code6, Ip}}, Row.{Row}}, Row.{IsFourDigits, word_of}}

-- octets that are wanted, whatever the case of their digits: they are shown in lower case
abbrev pub WantsOctets : List ℕ → List ℕ → Type 0
WantsOctets want text = (octets : List ℕ) × IsHexText octets text × (want ≡ hex_text octets)

-- the same of a checksum
abbrev pub WantsSum : List ℕ → List ℕ → Type 0
WantsSum want text = (octets : List ℕ) × IsFourDigits octets text × (want ≡ hex_text octets)

-- the digits of a number that is wanted
abbrev pub WantsNumber : List ℕ → List ℕ → Type 0
WantsNumber want text = (want ≡ text) × IsNumeral text

-- `hmac KEY DATA OUT`
pub record SaysHmac (key message want : List ℕ) (line : List (List ℕ)) : Type 0 where
  pub key_text : List ℕ
  pub message_text : List ℕ
  pub out_text : List ℕ
  pub parts : line ≡ word_of kinds.Hmac ∷ key_text ∷ message_text ∷ out_text ∷ []
  pub names_key : IsHexText key key_text
  pub names_message : IsHexText message message_text
  pub wants : WantsOctets want out_text

-- words, with a space between two of them
abbrev pub spaced : List ℕ → List (List ℕ) → List ℕ
spaced word more = word ++ flat_map (λ next. 32 ∷ next) more

-- `decode HEX WORDS`, of at least one word
pub record SaysDecode (bytes want : List ℕ) (line : List (List ℕ)) : Type 0 where
  pub text : List ℕ
  pub word : List ℕ
  pub more : List (List ℕ)
  pub parts : line ≡ word_of kinds.Decode ∷ text ∷ word ∷ more
  pub names : IsHexText bytes text
  pub wants : want ≡ spaced word more

-- a line of these fields asks the question and wants the text
abbrev pub SaysOf : Question → List ℕ → List (List ℕ) → Type 0
SaysOf (Hmac key message) want = SaysHmac key message want
SaysOf (Sum bytes) want = HasTwoFields (word_of kinds.Sum ∷ []) (IsHexText bytes) (WantsSum want)
SaysOf (Decode bytes) want = SaysDecode bytes want
SaysOf (Code4 code) want = HasTwoFields (word_of kinds.Code4 ∷ []) (IsNumberText 0 255 code) (WantsNumber want)
SaysOf (Code6 code) want = HasTwoFields (word_of kinds.Code6 ∷ []) (IsNumberText 0 65535 code) (WantsNumber want)
SaysOf (Ip address) want = HasTwoFields (word_of kinds.Ip ∷ []) (λ text. address ≡ text) (λ text. want ≡ text)

-- a line of these fields is the row
abbrev pub SaysRow : Row → List (List ℕ) → Type 0
SaysRow row line = SaysOf row.question row.want line
