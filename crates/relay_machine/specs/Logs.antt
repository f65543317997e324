-- How a step follows the table of answers, by whatever log a table of memberships represents.
use Rattle.std.specs.Prelude.{◌≡◌, List, Result, IfOk, None}
use Rattle.endpoint_membership.specs.{Table.{ForLogBy, Holds, TableValue, TableSettings}, declared.change.Change.{Change}}
use Rattle.relay_machine.specs.{declared.{sends.Step.{Step}, settings.Settings.{Settings}}, Accepted.{handed_out, with_change}, EventAnswer.{EventAnswer}}

-- by every log that the table represents, where the call succeeded
abbrev pub IfOkForLogBy : {A E : Type 0} → TableSettings → TableValue → Result A E → (List Change → A → Type 0) → Type 0
IfOkForLogBy terms table answer Fact = ForLogBy terms table (λ log. IfOk answer (Fact log))

-- the step is this answer: its outcome, its sends, and the entry as far as it is handed out. The table
-- after it represents the log with the entry, as well as with what was handed out, and where nothing
-- was, it is the table before. The limits in force stay
pub record IsAnswered (terms : TableSettings) (before after : TableValue) (log : List Change) (answer : EventAnswer) (step : Step) : Type 0 where
  pub outcome : step.outcome ≡ answer.outcome
  pub sends : step.sends ≡ answer.sends
  pub change : step.change ≡ handed_out terms log answer.entry
  pub stands : Holds terms after (with_change log answer.entry)
  pub published : Holds terms after (with_change log step.change)
  pub same : step.change ≡ None → after ≡ before
  pub force : after.in_force ≡ before.in_force

-- by each log that the table before represents, the step is the answer by that log
abbrev pub StepAnswers : TableSettings → TableValue → TableValue → Step → (List Change → EventAnswer) → Type 0
StepAnswers terms before after step answer = ForLogBy terms before (λ log. IsAnswered terms before after log (answer log) step)

-- the same of a call, where it succeeded
abbrev pub AnswersByLog : {E : Type 0} → TableSettings → TableValue → TableValue → Result Step E → (List Change → EventAnswer) → Type 0
AnswersByLog terms before after result answer = IfOkForLogBy terms before result (λ log step. IsAnswered terms before after log (answer log) step)

-- the settings with the limits that are in force at a table, by which a relay answers
abbrev pub settings_in_force : Settings → TableValue → Settings
settings_in_force settings table = record settings { limits = table.in_force }
