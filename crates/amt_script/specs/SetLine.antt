-- What is wrong with a line that begins with `set`, after the settings and the items before it.
use Rattle.std.specs.Prelude.{◌≡◌, ◌≢◌, ◌⊎◌, ℕ, List, [], ◌∷◌, IsSome}
use Rattle.script_lines.specs.declared.reason.Reason.{Reason}
use Rattle.script_lines.specs.declared.reason.Reason.TheVariants as reasons
use Rattle.amt_script.specs.{declared.{kind.Key.{Key}, setting.Setting.{Setting}}, Fault.{FailsAs}, Row.{key_word, BeginsWithNoKey}, Setting.{set_at}}
use Rattle.amt_script.specs.declared.kind.Kind.TheVariants as kinds

-- what is wrong with these values of a key
abbrev pub FailsToSetKey : {I : Type 0} → List Setting → List I → Key → List (List ℕ) → Reason → Type 0
FailsToSetKey given items key values reasons.Late = items ≢ []
FailsToSetKey given items key values reasons.Twice = IsSome (set_at given key)
FailsToSetKey given items key values reason = FailsAs (kinds.Set key) values reason

-- the fields are a key and values, and these fail
abbrev pub FailsInKey : List (List ℕ) → Reason → Type 0
FailsInKey texts reason =
    (key : Key) × (values : List (List ℕ)) × (texts ≡ key_word key ∷ values) × FailsAs (kinds.Set key) values reason

-- what is wrong with these fields after `set`
abbrev pub FailsToSet : {I : Type 0} → List Setting → List I → List (List ℕ) → Reason → Type 0
FailsToSet given items texts reasons.Word = BeginsWithNoKey texts
FailsToSet given items texts reasons.Late = items ≢ []
FailsToSet given items texts reasons.Twice =
    (key : Key) × (values : List (List ℕ)) × (texts ≡ key_word key ∷ values) × IsSome (set_at given key)
FailsToSet given items texts reasons.Count = (texts ≡ []) ⊎ FailsInKey texts reasons.Count
FailsToSet given items texts reason = FailsInKey texts reason
