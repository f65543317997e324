-- Which device's fault ended a run, as a result is handed on.
use Rattle.std.{proofs.Common.{◌≡◌, ℕ, ap, ◌∙◌, subst}, specs.Prelude.{Result, Err, IsErrOf}}
use Rattle.amt_ports.specs.{Causes.{Rose}, EndCauses.{IsCausedBy}, declared.end.End.{End}}

-- it didn't end the run
pub not_cause : {A : Type 0} (result : Result A End) (cause : End) (before after : ℕ) → (IsErrOf result cause → ⊥) → after ≡ before → IsCausedBy result cause before after
not_cause result cause before after isnt same = record { rose = λ is. absurd (isnt is); calm = λ _. same }

-- the error is handed on
pub other_end : {A B : Type 0} (end cause : End) → (IsErrOf {T = A} (Err end) cause → ⊥) → IsErrOf {T = B} (Err end) cause → ⊥
other_end {A} end cause isnt is = let same : end ≡ cause = cc is in isnt (ap Err same)

pub same_cause : {A B : Type 0} (end cause : End) (before now after : ℕ) → now ≡ before → IsCausedBy {A = A} (Err end) cause now after → IsCausedBy {A = B} (Err end) cause before after
same_cause {A} {B} end cause before now after here known = record {
  rose = λ is. let same : end ≡ cause = cc is in subst (λ (number : ℕ). Rose number after) here (known.rose (ap Err same));
  calm = λ isnt. known.calm (λ is. let same : end ≡ cause = cc is in isnt (ap Err same)) ∙ here;
}
