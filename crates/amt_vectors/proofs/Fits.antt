-- No field of a line that is a row fails.
use Rattle.std.proofs.Common.{◌≡◌, ℕ, List, [], ◌∷◌, inl, inr, refl, arith}
use Rattle.amt_values.specs.Numeral.{IsNumeral}
use Rattle.script_lines.{specs.{declared.reason.Reason.{Reason}, Form.{a_number, some_octets}}, proofs.Forms.{octets_fit, number_fits}}
use Rattle.script_lines.specs.declared.reason.Reason.TheVariants as reasons
use Rattle.amt_vectors.specs.{declared.{kind.RowKind.{RowKind}, row.Question.{Question, TheVariants.{Hmac, Sum, Decode, Code4, Code6, Ip}}}, Fault.{FailsAs, FieldFails, HasOtherFieldCount, SomeFieldFails}, Row.{Field, of_form, four_digits, some_digits, any_text, fields_of, word_of, IsFourDigits}, Says.{SaysOf}}
use Rattle.amt_vectors.specs.declared.kind.RowKind.TheVariants as kinds

-- the text is such a field
abbrev Fits : Field → List ℕ → Type 0
Fits field text = (reason : Reason) → FieldFails field text reason → ⊥

four_digits_fit : (octets text : List ℕ) → IsFourDigits octets text → Fits four_digits text
four_digits_fit octets text is reasons.Hex fails = fails octets is
four_digits_fit octets text is reason fails = fails

digits_fit : (text : List ℕ) → IsNumeral text → Fits some_digits text
digits_fit text is reasons.Number fails = fails is
digits_fit text is reason fails = fails

any_fits : (text : List ℕ) → Fits any_text text
any_fits text reason fails = fails

-- each of two fields, and of three; further ones aren't judged
two_fit : (one other : Field) (x y : List ℕ) (more : List (List ℕ)) → Fits one x → Fits other y → (reason : Reason)
    → SomeFieldFails (one ∷ other ∷ []) (x ∷ y ∷ more) reason → ⊥
two_fit one other x y more fits fits' reason (inl h) = fits reason h
two_fit one other x y more fits fits' reason (inr (inl h)) = fits' reason h
two_fit one other x y more fits fits' reason (inr (inr h)) = h

three_fit : (one other third : Field) (x y z : List ℕ) → Fits one x → Fits other y → Fits third z → (reason : Reason)
    → SomeFieldFails (one ∷ other ∷ third ∷ []) (x ∷ y ∷ z ∷ []) reason → ⊥
three_fit one other third x y z fits fits' fits'' reason (inl h) = fits reason h
three_fit one other third x y z fits fits' fits'' reason (inr h) = two_fit other third y z [] fits' fits'' reason h

-- neither their number nor any of them
all_fit : (kind : RowKind) (values : List (List ℕ)) → (HasOtherFieldCount kind values → ⊥) → ((reason : Reason) → SomeFieldFails (fields_of kind) values reason → ⊥)
    → (reason : Reason) → FailsAs kind values reason → ⊥
all_fit kind values count each reasons.Count fails = count fails
all_fit kind values count each reason fails = each reason fails

-- the line is of this kind, and no field of it fails
pub record IsFit (kind : RowKind) (line : List (List ℕ)) : Type 0 where
  pub values : List (List ℕ)
  pub parts : line ≡ word_of kind ∷ values
  pub fits : (reason : Reason) → FailsAs kind values reason → ⊥

abbrev pub kind_of : Question → RowKind
kind_of (Hmac key message) = kinds.Hmac
kind_of (Sum bytes) = kinds.Sum
kind_of (Decode bytes) = kinds.Decode
kind_of (Code4 code) = kinds.Code4
kind_of (Code6 code) = kinds.Code6
kind_of (Ip address) = kinds.Ip

pub row_is_fit : (question : Question) (want : List ℕ) (line : List (List ℕ)) → SaysOf question want line → IsFit (kind_of question) line
row_is_fit (Hmac key message) want line says = record {
  values = says.key_text ∷ says.message_text ∷ says.out_text ∷ [];
  parts = says.parts;
  fits = all_fit kinds.Hmac (says.key_text ∷ says.message_text ∷ says.out_text ∷ []) (λ other. other refl)
      (three_fit (of_form some_octets) (of_form some_octets) (of_form some_octets) says.key_text says.message_text says.out_text
      (octets_fit key says.key_text says.names_key) (octets_fit message says.message_text says.names_message)
      (octets_fit says.wants.0 says.out_text says.wants.1));
}
row_is_fit (Sum bytes) want line says = record {
  values = says.text ∷ says.next ∷ [];
  parts = says.parts;
  fits = all_fit kinds.Sum (says.text ∷ says.next ∷ []) (λ other. other refl)
      (two_fit (of_form some_octets) four_digits says.text says.next [] (octets_fit bytes says.text says.names)
      (four_digits_fit says.names_next.0 says.next says.names_next.1));
}
row_is_fit (Decode bytes) want line says = record {
  values = says.text ∷ says.word ∷ says.more;
  parts = says.parts;
  fits = all_fit kinds.Decode (says.text ∷ says.word ∷ says.more) (λ few. absurd (omega (arith, few)))
      (two_fit (of_form some_octets) any_text says.text says.word says.more (octets_fit bytes says.text says.names) (any_fits says.word));
}
row_is_fit (Code4 code) want line says = record {
  values = says.text ∷ says.next ∷ [];
  parts = says.parts;
  fits = all_fit kinds.Code4 (says.text ∷ says.next ∷ []) (λ other. other refl)
      (two_fit (of_form (a_number 0 255)) some_digits says.text says.next [] (number_fits 0 255 code says.text (omega arith) says.names)
      (digits_fit says.next says.names_next.1));
}
row_is_fit (Code6 code) want line says = record {
  values = says.text ∷ says.next ∷ [];
  parts = says.parts;
  fits = all_fit kinds.Code6 (says.text ∷ says.next ∷ []) (λ other. other refl)
      (two_fit (of_form (a_number 0 65535)) some_digits says.text says.next [] (number_fits 0 65535 code says.text (omega arith) says.names)
      (digits_fit says.next says.names_next.1));
}
row_is_fit (Ip address) want line says = record {
  values = says.text ∷ says.next ∷ [];
  parts = says.parts;
  fits = all_fit kinds.Ip (says.text ∷ says.next ∷ []) (λ other. other refl)
      (two_fit any_text any_text says.text says.next [] (any_fits says.text) (any_fits says.next));
}
