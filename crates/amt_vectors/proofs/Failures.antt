-- The first reason why the fields of a row fail.
use Rattle.std.proofs.Common.{◌≡◌, ◌⊎◌, ℕ, List, [], ◌∷◌, Err, IsErrOf, inl, inr, refl, ◌↔◌, sym, subst, ap, arith}
use Rattle.amt_values.specs.{Numeral.{IsNumeral}, Conditions.{First}}
use Rattle.script_lines.{specs.{declared.{fault.LineError.{LineError, TheVariants.{Bad, Memory}}, reason.Reason.{Reason}}, Form.{Fails, a_number, some_octets}, Reading.{FailsFirst}}, proofs.Firsts.{First-same}}
use Rattle.script_lines.specs.declared.reason.Reason.TheVariants as reasons
use Rattle.amt_vectors.{specs.{declared.kind.RowKind.{RowKind}, Fault.{FailsAs, FailsAsRow, FailsInKind, FieldFails, HasOtherFieldCount, SomeFieldFails, order_of_reasons, order_of_values}, Row.{Field, fields_of, four_digits, of_form, some_digits, word_of}, Says.{WantsNumber}}, proofs.Rows.{same_kind, same_values}}
use Rattle.amt_vectors.specs.declared.kind.RowKind.TheVariants as kinds

-- out of memory, or bad for this reason, which comes with a fact
abbrev pub IsBadFor : Reason → Type 0 → LineError → Type 0
IsBadFor reason Fact error = (error ≡ Memory) ⊎ ((error ≡ Bad reason) × Fact)

told : (Holds : Reason → Type 0) (order : List Reason) (reason : Reason) (Fact : Type 0) (error : LineError) → (Fact → First Holds order reason)
    → IsBadFor reason Fact error → FailsFirst Holds order error
told Holds order reason Fact error first (inl memory) = subst (FailsFirst Holds order) (sym memory) tt
told Holds order reason Fact error first (inr bad) = subst (FailsFirst Holds order) (sym bad.0) (first bad.1)

none_of_two : ⊥ ⊎ (⊥ ⊎ ⊥) → ⊥
none_of_two (inl h) = h
none_of_two (inr (inl h)) = h
none_of_two (inr (inr h)) = h

none_of_three : ⊥ ⊎ (⊥ ⊎ (⊥ ⊎ ⊥)) → ⊥
none_of_three (inl h) = h
none_of_three (inr h) = none_of_two h

module _ (values : List (List ℕ)) (key message out : List ℕ) (parts : values ≡ key ∷ message ∷ out ∷ []) where
  hmac_hex : SomeFieldFails (fields_of kinds.Hmac) (key ∷ message ∷ out ∷ []) reasons.Hex → First (FailsAs kinds.Hmac values) order_of_values reasons.Hex
  hmac_hex fails =
      subst (λ (vs : List (List ℕ)). First (FailsAs kinds.Hmac vs) order_of_values reasons.Hex) (sym parts)
      (inr (λ other. other refl, inr (none_of_three, inl (fails, refl))))

  pub hmac_key : (error : LineError) → IsBadFor reasons.Hex (Fails some_octets key reasons.Hex) error → FailsFirst (FailsAs kinds.Hmac values) order_of_values error
  hmac_key error bad = told (FailsAs kinds.Hmac values) order_of_values reasons.Hex (Fails some_octets key reasons.Hex) error (λ h. hmac_hex (inl h)) bad

  pub hmac_message : (error : LineError) → IsBadFor reasons.Hex (Fails some_octets message reasons.Hex) error → FailsFirst (FailsAs kinds.Hmac values) order_of_values error
  hmac_message error bad = told (FailsAs kinds.Hmac values) order_of_values reasons.Hex (Fails some_octets message reasons.Hex) error (λ h. hmac_hex (inr (inl h))) bad

  pub hmac_out : (error : LineError) → IsBadFor reasons.Hex (Fails some_octets out reasons.Hex) error → FailsFirst (FailsAs kinds.Hmac values) order_of_values error
  hmac_out error bad = told (FailsAs kinds.Hmac values) order_of_values reasons.Hex (Fails some_octets out reasons.Hex) error (λ h. hmac_hex (inr (inr (inl h)))) bad

module _ (values : List (List ℕ)) (octets out : List ℕ) (parts : values ≡ octets ∷ out ∷ []) where
  sum_hex : SomeFieldFails (fields_of kinds.Sum) (octets ∷ out ∷ []) reasons.Hex → First (FailsAs kinds.Sum values) order_of_values reasons.Hex
  sum_hex fails =
      subst (λ (vs : List (List ℕ)). First (FailsAs kinds.Sum vs) order_of_values reasons.Hex) (sym parts)
      (inr (λ other. other refl, inr (none_of_two, inl (fails, refl))))

  pub sum_octets : (error : LineError) → IsBadFor reasons.Hex (Fails some_octets octets reasons.Hex) error → FailsFirst (FailsAs kinds.Sum values) order_of_values error
  sum_octets error bad = told (FailsAs kinds.Sum values) order_of_values reasons.Hex (Fails some_octets octets reasons.Hex) error (λ h. sum_hex (inl h)) bad

  pub sum_out : (error : LineError) → IsBadFor reasons.Hex (FieldFails four_digits out reasons.Hex) error → FailsFirst (FailsAs kinds.Sum values) order_of_values error
  sum_out error bad = told (FailsAs kinds.Sum values) order_of_values reasons.Hex (FieldFails four_digits out reasons.Hex) error (λ h. sum_hex (inr (inl h))) bad

module _ (values : List (List ℕ)) (octets word : List ℕ) (more : List (List ℕ)) (parts : values ≡ octets ∷ word ∷ more) where
  decode_hex : Fails some_octets octets reasons.Hex → First (FailsAs kinds.Decode values) order_of_values reasons.Hex
  decode_hex fails =
      subst (λ (vs : List (List ℕ)). First (FailsAs kinds.Decode vs) order_of_values reasons.Hex) (sym parts)
      (inr (λ few. absurd (omega (arith, few)), inr (none_of_two, inl (inl fails, refl))))

  pub decode_octets : (error : LineError) → IsBadFor reasons.Hex (Fails some_octets octets reasons.Hex) error → FailsFirst (FailsAs kinds.Decode values) order_of_values error
  decode_octets error bad = told (FailsAs kinds.Decode values) order_of_values reasons.Hex (Fails some_octets octets reasons.Hex) error decode_hex bad

-- a row of a code and a number, whose codes are up to a most one
module _ (kind : RowKind) (most : ℕ) (fields_are : fields_of kind ≡ of_form (a_number 0 most) ∷ some_digits ∷ [])
    (count : (code value : List ℕ) → HasOtherFieldCount kind (code ∷ value ∷ []) → ⊥)
    (values : List (List ℕ)) (code value : List ℕ) (parts : values ≡ code ∷ value ∷ []) where
  abbrev CodeFails : Reason → Type 0
  CodeFails reason = SomeFieldFails (of_form (a_number 0 most) ∷ some_digits ∷ []) (code ∷ value ∷ []) reason

  code_first : (reason : Reason) → First (FailsAs kind (code ∷ value ∷ [])) order_of_values reason → First (FailsAs kind values) order_of_values reason
  code_first reason first = subst (λ (vs : List (List ℕ)). First (FailsAs kind vs) order_of_values reason) (sym parts) first

  code_number : CodeFails reasons.Number → First (FailsAs kind values) order_of_values reasons.Number
  code_number fails =
      code_first reasons.Number
      (inr (count code value, inl (subst (λ (fs : List Field). SomeFieldFails fs (code ∷ value ∷ []) reasons.Number) (sym fields_are) fails, refl)))

  pub code_value_bad : (error : LineError) → IsBadFor reasons.Number (FieldFails some_digits value reasons.Number) error
      → FailsFirst (FailsAs kind values) order_of_values error
  code_value_bad error bad =
      told (FailsAs kind values) order_of_values reasons.Number (FieldFails some_digits value reasons.Number) error (λ h. code_number (inr (inl h))) bad

  no_number : Fails (a_number 0 most) code reasons.Range → IsNumeral value → CodeFails reasons.Number → ⊥
  no_number range digits (inl h) = h range.0
  no_number range digits (inr (inl h)) = h digits
  no_number range digits (inr (inr h)) = h

  no_hex : CodeFails reasons.Hex → ⊥
  no_hex h = none_of_two h

  code_range : Fails (a_number 0 most) code reasons.Range → IsNumeral value → First (FailsAs kind values) order_of_values reasons.Range
  code_range range digits =
      code_first reasons.Range
      (inr (
        count code value,
        inr (
          λ h. no_number range digits (subst (λ (fs : List Field). SomeFieldFails fs (code ∷ value ∷ []) reasons.Number) fields_are h),
          inr (
            λ h. no_hex (subst (λ (fs : List Field). SomeFieldFails fs (code ∷ value ∷ []) reasons.Hex) fields_are h),
            inl (subst (λ (fs : List Field). SomeFieldFails fs (code ∷ value ∷ []) reasons.Range) (sym fields_are) (inl range), refl),
          ),
        ),
      ))

  -- the code is no number, or out of its range, beside a value that is one
  pub code_bad : (reason : Reason) (want : List ℕ) → WantsNumber want value
      → (IsErrOf {T = ℕ} {E = Reason} (Err reason) reasons.Number → Fails (a_number 0 most) code reasons.Number)
      → (IsErrOf {T = ℕ} {E = Reason} (Err reason) reasons.Range → Fails (a_number 0 most) code reasons.Range) → (reason ≡ reasons.Number) ⊎ (reason ≡ reasons.Range)
      → FailsFirst (FailsAs kind values) order_of_values (Bad reason)
  code_bad reason want wants number range (inl is) =
      subst (First (FailsAs kind values) order_of_values) (sym is) (code_number (inl (number (ap (λ (r : Reason). Err r) is))))
  code_bad reason want wants number range (inr is) =
      subst (First (FailsAs kind values) order_of_values) (sym is) (code_range (range (ap (λ (r : Reason). Err r) is)) wants.1)

-- a line's first word is that of a kind, so it fails as that kind does
module _ (kind : RowKind) (values : List (List ℕ)) where
  as_kind : (reason : Reason) → FailsInKind (word_of kind ∷ values) reason → FailsAs kind values reason
  as_kind reason fails =
      let both = sym fails.2 in
      subst (λ (vs : List (List ℕ)). FailsAs kind vs reason) (same_values (word_of fails.0) (word_of kind) fails.1 values both)
      (subst (λ (other : RowKind). FailsAs other fails.1 reason) (same_kind fails.0 kind fails.1 values both) fails.3)

  each_kind : (reason : Reason) → FailsAs kind values reason ↔ FailsInKind (word_of kind ∷ values) reason
  each_kind reason = (λ h. (kind, values, refl, h), λ h. as_kind reason h)

  kind_failed : (error : LineError) → FailsFirst (FailsAs kind values) order_of_values error → FailsFirst (FailsAsRow (word_of kind ∷ values)) order_of_reasons error
  kind_failed (Bad reason) first =
      inr (
        λ unknown. unknown kind values refl,
        First-same (FailsAs kind values) (FailsAsRow (word_of kind ∷ values)) order_of_values reason
            (each_kind reasons.Count, (each_kind reasons.Number, (each_kind reasons.Hex, (each_kind reasons.Range, tt)))) first,
      )
  kind_failed Memory first = tt

pub row_failed : (kind : RowKind) (word : List ℕ) (values : List (List ℕ)) (error : LineError) → word ≡ word_of kind
    → FailsFirst (FailsAs kind values) order_of_values error → FailsFirst (FailsAsRow (word ∷ values)) order_of_reasons error
row_failed kind word values error is fails =
    subst (λ (w : List ℕ). FailsFirst (FailsAsRow (w ∷ values)) order_of_reasons error) (sym is) (kind_failed kind values error fails)
