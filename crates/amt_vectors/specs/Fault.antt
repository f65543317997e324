-- What is wrong with a line that is no row.
use Rattle.std.specs.Prelude.{◌≡◌, ◌≢◌, ◌<◌, ◌⊎◌, ℕ, List, [], ◌∷◌, length}
use Rattle.amt_values.specs.Numeral.{IsNumeral}
use Rattle.script_lines.specs.{declared.reason.Reason.{Reason, TheVariants.{Word, Count, Number, Hex, Range}}, Form.{Fails}}
use Rattle.amt_vectors.specs.{declared.kind.RowKind.{RowKind}, Row.{Field, of_form, four_digits, some_digits, fields_of, word_of, IsFourDigits}}
use Rattle.amt_vectors.specs.declared.kind.RowKind.TheVariants as kinds

-- the reasons for which the fields after the first word fail
abbrev pub order_of_values : List Reason
order_of_values = Count ∷ Number ∷ Hex ∷ Range ∷ []

-- the reasons in a line that is short and plain
abbrev pub order_of_reasons : List Reason
order_of_reasons = Word ∷ order_of_values

-- the text is no such field, for this reason
abbrev pub FieldFails : Field → List ℕ → Reason → Type 0
FieldFails (of_form form) text reason = Fails form text reason
FieldFails four_digits text Hex = (octets : List ℕ) → IsFourDigits octets text → ⊥
FieldFails some_digits text Number = IsNumeral text → ⊥
FieldFails field text reason = ⊥

-- some text is no such field
abbrev pub SomeFieldFails : List Field → List (List ℕ) → Reason → Type 0
SomeFieldFails (field ∷ fields) (text ∷ texts) reason = FieldFails field text reason ⊎ SomeFieldFails fields texts reason
SomeFieldFails fields texts reason = ⊥

-- the fields are too few or too many; a text that is wanted of a decoding has one word or more
abbrev pub HasOtherFieldCount : RowKind → List (List ℕ) → Type 0
HasOtherFieldCount kinds.Decode values = length values < 2
HasOtherFieldCount kind values = length values ≢ length (fields_of kind)

-- what is wrong with the fields after the first word
abbrev pub FailsAs : RowKind → List (List ℕ) → Reason → Type 0
FailsAs kind values Count = HasOtherFieldCount kind values
FailsAs kind values reason = SomeFieldFails (fields_of kind) values reason

-- the line is of a kind, and the fields after its first word fail
abbrev pub FailsInKind : List (List ℕ) → Reason → Type 0
FailsInKind line reason = (kind : RowKind) × (values : List (List ℕ)) × (line ≡ word_of kind ∷ values) × FailsAs kind values reason

-- what is wrong with a line of these fields
abbrev pub FailsAsRow : List (List ℕ) → Reason → Type 0
FailsAsRow line Word = (kind : RowKind) (values : List (List ℕ)) → line ≢ word_of kind ∷ values
FailsAsRow line reason = FailsInKind line reason
