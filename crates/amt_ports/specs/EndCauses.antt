-- Which device's fault ended a run.
use Rattle.std.specs.Prelude.{◌≡◌, ◌≢◌, ℕ, Result, IsErrOf}
use Rattle.amt_ports.specs.{Causes.{Rose}, declared.end.End.{End}}

-- the count rose where this ended the run, and only there
pub record IsCausedBy {A : Type 0} (result : Result A End) (cause : End) (before after : ℕ) : Type 0 where
  pub rose : IsErrOf result cause → Rose before after
  pub calm : (IsErrOf result cause → ⊥) → after ≡ before

-- the same of a run that ended so
abbrev pub IsCauseOf : End → End → ℕ → ℕ → Type 0
IsCauseOf end cause before after = (end ≡ cause → Rose before after) × (end ≢ cause → after ≡ before)
