-- The status and the line of each ending.
use Rattle.std.specs.Prelude.{◌≡◌, ◌≢◌, ◌⊎◌, ℕ, List, [], Option, Result, Ok, Err, OnOk, IfErr, IsErrOf}
use Rattle.amt_ports.specs.{Causes.{Rose}, Reading.{TakesAtMost, TakesMore}}
use Rattle.amt_values.specs.declared.bytes.TheConstants.{INPUT_LIMIT}
use Rattle.amt_config.specs.declared.fault.ConfigFault.{ConfigFault}
use Rattle.serving_commands.specs.Texts.{settings_line}
use Rattle.amt_command.specs.{declared.ending.Ending.{Ending, TheVariants.{Difference, Fault, LinkFault, Memory, RandomFault, ReadFault, TooLong, Usage, WriteFault}}, Command.{status_line}, Status.{AnswersMaking}, Task.{BeginsToWrite, IsDifferenceText, IsFaultText, Task, Work, Writes, making, reading, serving}}

-- the status of an ending that isn't well
abbrev pub status_of_ending : Ending → ℕ
status_of_ending Usage = 2
status_of_ending (Fault line) = 3
status_of_ending ReadFault = 4
status_of_ending WriteFault = 5
status_of_ending LinkFault = 6
status_of_ending Memory = 7
status_of_ending TooLong = 8
status_of_ending (Difference line) = 9
status_of_ending RandomFault = 10

-- its line on standard error
abbrev pub line_of_ending : Ending → List ℕ
line_of_ending (Fault line) = line
line_of_ending (Difference line) = line
line_of_ending ending = status_line (status_of_ending ending)

-- the status of a run, 0 where it ended well
abbrev pub status_of : {T : Type 0} → Result T Ending → ℕ
status_of (Ok done) = 0
status_of (Err ending) = status_of_ending ending

-- its line, none where it ended well
abbrev pub line_of : {T : Type 0} → Result T Ending → List ℕ
line_of (Ok done) = []
line_of (Err ending) = line_of_ending ending

-- where the input has a fault or a difference, the line is that one's; no link or random source is used
abbrev pub TellsWhy : {X : Type 0} → Task X → Option (List ℕ) → Option (List ℕ) → Ending → Type 0
TellsWhy task left left' (Fault line) = IsFaultText task left left' line
TellsWhy task left left' (Difference line) = IsDifferenceText task left left' line
TellsWhy task left left' LinkFault = ⊥
TellsWhy task left left' RandomFault = ⊥
TellsWhy task left left' ending = Unit {0}

-- How a run that reads its input ends, and what it leaves.
pub record EndsReading {X : Type 0} (task : Task X) (left left' : Option (List ℕ)) (reads reads' : ℕ) (written written' : Option (List ℕ)) (OutIsSame : Type 0) (result : Result (Unit {0}) Ending) : Type 0 where
  pub done : OnOk result (Writes task left left' written written')
  pub why : IfErr result (TellsWhy task left left')
  pub read : IsErrOf result ReadFault → Rose reads reads'
  pub too_long : IsErrOf result TooLong → TakesMore INPUT_LIMIT left left'
  pub begun : IsErrOf result WriteFault → BeginsToWrite task left left' written written'
  pub memory : IsErrOf result Memory → OutIsSame ⊎ BeginsToWrite task left left' written written'

-- how a run over files and devices ends, and that it leaves its input alone
pub record EndsServing (InputIsSame : Type 0) (result : Result (Unit {0}) Ending) : Type 0 where
  pub untouched : InputIsSame
  pub fault : (line : List ℕ) → IsErrOf result (Fault line) → (fault : ConfigFault) × (line ≡ settings_line fault)
  pub no_difference : (line : List ℕ) → IsErrOf result (Difference line) → ⊥

-- how a run of the work ends, its input and output before and after; the functions are as in `Answers`
abbrev pub EndsFor : Work → {S O : Type 0} → (S → Option (List ℕ)) → (S → ℕ) → (O → Option (List ℕ)) → (O → ℕ) → S → S → O → O → Result (Unit {0}) Ending → Type 0
EndsFor (reading X task) left reads written writes input input' out out' result =
    EndsReading task (left input) (left input') (reads input) (reads input') (written out) (written out') (out' ≡ out) result
EndsFor (making text) left reads written writes input input' out out' result =
    AnswersMaking text reads written writes input input' out out' (status_of result)
EndsFor serving left reads written writes input input' out out' result = EndsServing (input' ≡ input) result

-- What became of the input and the output of a run: the output failed once exactly where the ending says so, by
-- its count of failures, and the input failed, or was taken past its limit, only where it says that.
pub record LeavesDevices {S O : Type 0} (left : S → Option (List ℕ)) (reads : S → ℕ) (writes : O → ℕ) (input input' : S) (out out' : O) (result : Result (Unit {0}) Ending) : Type 0 where
  pub write : IsErrOf result WriteFault → Rose (writes out) (writes out')
  pub calm_input : (IsErrOf result ReadFault → ⊥) → reads input' ≡ reads input
  pub calm_output : (IsErrOf result WriteFault → ⊥) → writes out' ≡ writes out
  pub within : (IsErrOf result TooLong → ⊥) → TakesAtMost INPUT_LIMIT (left input) (left input')
  pub quiet : IfErr result (λ ending. ending ≢ WriteFault → ending ≢ Memory → out' ≡ out)
