-- The kinds of rows: the first word of a row of each kind, and the forms of its fields.
use Rattle.std.specs.Prelude.{◌≡◌, ℕ, List, [], ◌∷◌, length, codes, Ok}
use Rattle.hex.specs.Hex.{decode_of}
use Rattle.script_lines.specs.Form.{Form, a_number, some_octets}
use Rattle.amt_vectors.specs.declared.kind.RowKind.{RowKind}
use Rattle.amt_vectors.specs.declared.kind.RowKind.TheVariants as kinds

-- the first word
abbrev pub word_of : RowKind → List ℕ
word_of kinds.Hmac = codes "hmac"
word_of kinds.Sum = codes "sum"
word_of kinds.Decode = codes "decode"
word_of kinds.Code4 = codes "code4"
word_of kinds.Code6 = codes "code6"
word_of kinds.Ip = codes "ip"

-- what a field of a row may be: of a form that scripts have too, the four hexadecimal digits of a checksum,
-- decimal digits, however many, or any text
pub data Field : Type 0 where
  of_form : Form → Field
  four_digits : Field
  some_digits : Field
  any_text : Field

-- what the fields after the first word may be
abbrev pub fields_of : RowKind → List Field
fields_of kinds.Hmac = of_form some_octets ∷ of_form some_octets ∷ of_form some_octets ∷ []
fields_of kinds.Sum = of_form some_octets ∷ four_digits ∷ []
fields_of kinds.Decode = of_form some_octets ∷ any_text ∷ []
fields_of kinds.Code4 = of_form (a_number 0 255) ∷ some_digits ∷ []
fields_of kinds.Code6 = of_form (a_number 0 65535) ∷ some_digits ∷ []
fields_of kinds.Ip = any_text ∷ any_text ∷ []

-- four hexadecimal digits, of either case
pub record IsFourDigits (octets text : List ℕ) : Type 0 where
  pub count : length text ≡ 4
  pub digits : decode_of text ≡ Ok octets
