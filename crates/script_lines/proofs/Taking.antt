-- A text's lines that were read so far, and those that are left.
use Rattle.std.{proofs.Common.{◌≡◌, ℕ, ◌+◌, ◌<◌, ◌≤◌, ◌==◌, false, List, [], ◌∷◌, ◌++◌, length, slice_index, inr, refl, sym, ap, subst, ◌∙◌, append_assoc, length-append, arith}, specs.Str.Lines.{lines}}
use Rattle.script_lines.{specs.{declared.fault.LineError.{LineError}, Kind.{Kind}, Lines.{fields, says_nothing, IsShort, IsPlain}, Reading.{HasBegun, FailsAfter, FailsOnLine}}, proofs.Begun.{has_begun_start}}
use Rattle.script_lines.specs.declared.fault.LineError.TheVariants as line_errors
use Rattle.amt_values.specs.Conditions.{First}

-- the line of this first field says something
pub something : (line first : List ℕ) (rest : List (List ℕ)) → fields line ≡ first ∷ rest → (slice_index first 0 == 35) ≡ false → says_nothing (fields line) ≡ false
something line first rest parts other = rw parts other

-- the lines before what is left begin a script, are so many, and the value has heard them
pub record IsTaking {S W X : Type 0} (kind : Kind S W) (HasHeard : X → List S → Type 0) (text left : List ℕ) (value : X) (count : ℕ) : Type 0 where
  pub before : List (List ℕ)
  pub parts : lines text ≡ before ++ lines left
  pub begun : HasBegun kind HasHeard value before
  pub counted : count ≡ length before
  pub room : count + length left ≤ length text

module _ {S W : Type 0} (kind : Kind S W) where
  -- what a kind says of the fields of a line
  pub fails_on_line : (past : List S) (line : List ℕ) (parts : List (List ℕ)) (error : LineError) → IsShort line → says_nothing (fields line) ≡ false → IsPlain line
      → fields line ≡ parts → FailsAfter kind past parts error → FailsOnLine kind past line error
  fails_on_line past line parts (line_errors.Bad reason) short something plain same fails =
      inr (short, something, inr (plain, subst (λ (fs : List (List ℕ)). First (kind.Fails past fs) kind.order reason) (sym same) fails))
  fails_on_line past line parts line_errors.Memory short something plain same fails = tt

  module _ {X : Type 0} (HasHeard : X → List S → Type 0) where
    pub taking_start : (text : List ℕ) (value : X) → HasHeard value [] → IsTaking kind HasHeard text text value 0
    taking_start text value heard = record {
      before = [];
      parts = refl;
      begun = has_begun_start kind HasHeard value heard;
      counted = refl;
      room = omega arith;
    }

    pub taking_more : (text left line rest : List ℕ) (value after : X) (count : ℕ) (taking : IsTaking kind HasHeard text left value count)
        → lines left ≡ line ∷ lines rest → length rest < length left → HasBegun kind HasHeard after (taking.before ++ line ∷ [])
        → IsTaking kind HasHeard text rest after (count + 1)
    taking_more text left line rest value after count taking cut shorter begun = record {
      before = taking.before ++ line ∷ [];
      parts = taking.parts ∙ (ap (λ (ls : List (List ℕ)). taking.before ++ ls) cut ∙ sym (append_assoc taking.before (line ∷ []) (lines rest)));
      begun = begun;
      counted = omega (arith, taking.counted, length-append taking.before (line ∷ []));
      room = omega (arith, taking.room, shorter);
    }
