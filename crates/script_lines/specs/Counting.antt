-- How often a run's sink failed.
use Rattle.std.specs.Prelude.{◌≡◌, ℕ, ◌≤◌, Result, IsErrOf}
use Rattle.amt_ports.specs.Causes.{Rose}
use Rattle.script_lines.specs.declared.fault.RunFault.{RunFault, TheVariants.{Write}}

-- the sink failed once where the answer says so, and else not, by its count of failures
pub record CountsWrites (before after : ℕ) (result : Result (Unit {0}) RunFault) : Type 0 where
  pub later : before ≤ after
  pub write : IsErrOf result Write → Rose before after
  pub quiet : (IsErrOf result Write → ⊥) → after ≡ before
