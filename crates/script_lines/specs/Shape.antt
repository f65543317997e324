-- The shape of a line: how many fields follow its first words, and of which forms.
use Rattle.std.specs.Prelude.{◌≡◌, ◌≢◌, ◌<◌, ◌⊎◌, ℕ, List, [], ◌∷◌, ◌++◌, length, Option, None, Some}
use Rattle.script_lines.specs.{declared.reason.Reason.{Reason, TheVariants.{Count}}, Form.{Form, Fails}}

-- fields of these forms, and then any number of fields of the last form where there is one
pub record Shape : Type 0 where
  pub forms : List Form
  pub repeated : Option Form

-- the fields are too few or too many
abbrev pub HasOtherCount : List Form → Option Form → List (List ℕ) → Type 0
HasOtherCount forms None values = length values ≢ length forms
HasOtherCount forms (Some form) values = length values < length forms

-- the text of some field isn't of its form, for this reason
abbrev pub SomeFails : List Form → Option Form → List (List ℕ) → Reason → Type 0
SomeFails forms repeated [] reason = ⊥
SomeFails [] None (text ∷ texts) reason = ⊥
SomeFails [] (Some form) (text ∷ texts) reason = Fails form text reason ⊎ SomeFails [] (Some form) texts reason
SomeFails (form ∷ forms) repeated (text ∷ texts) reason = Fails form text reason ⊎ SomeFails forms repeated texts reason

-- fields after the first words of a line of this shape are too few or too many, or some field fails
abbrev pub FailsIn : Shape → List (List ℕ) → Reason → Type 0
FailsIn shape values Count = HasOtherCount shape.forms shape.repeated values
FailsIn shape values reason = SomeFails shape.forms shape.repeated values reason

-- the line is these words, and one field of this text
pub record HasField (words : List (List ℕ)) (IsText : List ℕ → Type 0) (line : List (List ℕ)) : Type 0 where
  pub text : List ℕ
  pub parts : line ≡ words ++ text ∷ []
  pub names : IsText text

-- the line is these words, and two fields of these texts
pub record HasTwoFields (words : List (List ℕ)) (IsText IsNext : List ℕ → Type 0) (line : List (List ℕ)) : Type 0 where
  pub text : List ℕ
  pub next : List ℕ
  pub parts : line ≡ words ++ text ∷ next ∷ []
  pub names : IsText text
  pub names_next : IsNext next

-- the line is these words, and three fields of these texts
pub record HasThreeFields (words : List (List ℕ)) (IsText IsNext IsLast : List ℕ → Type 0) (line : List (List ℕ)) : Type 0 where
  pub text : List ℕ
  pub next : List ℕ
  pub last : List ℕ
  pub parts : line ≡ words ++ text ∷ next ∷ last ∷ []
  pub names : IsText text
  pub names_next : IsNext next
  pub names_last : IsLast last
