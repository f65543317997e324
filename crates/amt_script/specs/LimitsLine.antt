-- What the reader of a line `limits E G S` answers.
use Rattle.std.specs.Prelude.{ℕ, ◌⊎◌, List, ◌++◌}
use Rattle.endpoint_membership.specs.declared.limits.Limits.{Limits}
use Rattle.script_lines.specs.declared.reason.Reason.{Reason, TheVariants.{Range}}
use Rattle.amt_script.specs.declared.kind.Kind.TheVariants as kinds
use Rattle.amt_script.specs.{Fault.{FailsAs, SaysMore}, Row.{words_of}, Says.{IsLimitText}}

-- the texts are those of the limits
pub record AreLimitTexts (endpoints groups sources : List ℕ) (limits : Limits) : Type 0 where
  pub endpoints_are : IsLimitText limits.endpoints endpoints
  pub groups_are : IsLimitText limits.groups groups
  pub sources_are : IsLimitText limits.sources sources

-- what is wrong with the fields after `limits`, after settings of these limits
abbrev pub FailsToLimit : Limits → List (List ℕ) → Reason → Type 0
FailsToLimit given values Range = FailsAs kinds.Limits values Range ⊎ SaysMore given (words_of kinds.Limits ++ values)
FailsToLimit given values reason = FailsAs kinds.Limits values reason
