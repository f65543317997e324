-- What a status says of a run, and what its run writes to standard error.
use Rattle.std.specs.{Prelude.{◌≡◌, ◌≢◌, ◌⊎◌, ℕ, ◌<◌, ◌≤◌, List, length, Option, None, Some}, Io.KnownBytes.{Appends}}
use Rattle.amt_ports.specs.{Causes.{Rose}, Reading.{TakesAtMost, TakesMore}}
use Rattle.amt_values.specs.declared.bytes.TheConstants.{INPUT_LIMIT}
use Rattle.amt_config.specs.declared.fault.ConfigFault.{ConfigFault}
use Rattle.serving_commands.specs.Texts.{settings_line}
use Rattle.amt_words.specs.{Line.{IsAccepted, IsCommandLine}, declared.command.Command.{Command}}
use Rattle.script_lines.specs.Writing.{WritesPrefix}
use Rattle.amt_command.specs.{Command.{IsQuiet, IsReadingStatus, IsStatus, IsUndisturbed, status_line, work_of}, Task.{BeginsToWrite, IsDifferenceText, IsFaultText, Task, Work, Writes, making, reading, serving}}

-- where nothing disturbs a run that reads its input, the octets of the input alone decide how it ends, unless
-- memory runs out: these octets, which the input tells
pub record Decides {X : Type 0} (task : Task X) (bytes : List ℕ) (status : ℕ) : Type 0 where
  pub complete : (value : X) → length bytes ≤ INPUT_LIMIT → task.Reads value bytes → task.difference value ≡ None → (status ≡ 0) ⊎ (status ≡ 7)
  pub differing : (value : X) (difference : List ℕ) → length bytes ≤ INPUT_LIMIT → task.Reads value bytes → task.difference value ≡ Some difference
      → (status ≡ 9) ⊎ (status ≡ 7)
  pub unreadable : length bytes ≤ INPUT_LIMIT → ((value : X) → task.Reads value bytes → ⊥) → (status ≡ 3) ⊎ (status ≡ 7)
  pub overlong : INPUT_LIMIT < length bytes → (status ≡ 8) ⊎ (status ≡ 7)

-- what the status says of a run that reads its input; the functions are as below
pub record AnswersReading {X : Type 0} (task : Task X) {S O : Type 0} (left : S → Option (List ℕ)) (reads : S → ℕ) (written : O → Option (List ℕ)) (writes : O → ℕ) (input input' : S) (out out' : O) (status : ℕ) : Type 0 where
  pub done : status ≡ 0 → Writes task (left input) (left input') (written out) (written out')
  pub fault : status ≡ 3 → (text : List ℕ) × IsFaultText task (left input) (left input') text
  pub read : status ≡ 4 → Rose (reads input) (reads input')
  pub too_long : status ≡ 8 → TakesMore INPUT_LIMIT (left input) (left input')
  pub difference : status ≡ 9 → (text : List ℕ) × IsDifferenceText task (left input) (left input') text
  pub begun : status ≡ 5 → BeginsToWrite task (left input) (left input') (written out) (written out')
  pub memory : status ≡ 7 → (out' ≡ out) ⊎ BeginsToWrite task (left input) (left input') (written out) (written out')
  pub decides : (bytes : List ℕ) → left input ≡ Some bytes → IsUndisturbed (reads input) (reads input') (writes out) (writes out')
      → Decides task bytes status
  pub only : IsReadingStatus status

-- what the status says of a run that writes a text of its words alone
pub record AnswersMaking (text : List ℕ) {S O : Type 0} (reads : S → ℕ) (written : O → Option (List ℕ)) (writes : O → ℕ) (input input' : S) (out out' : O) (status : ℕ) : Type 0 where
  pub done : status ≡ 0 → Appends (written out) (written out') text
  pub begun : status ≡ 5 → WritesPrefix (written out) (written out') text
  pub memory : status ≡ 7 → out' ≡ out
  pub untouched : input' ≡ input
  pub only : (status ≡ 0) ⊎ ((status ≡ 5) ⊎ (status ≡ 7))
  pub complete : IsUndisturbed (reads input) (reads input') (writes out) (writes out') → (status ≡ 0) ⊎ (status ≡ 7)

-- What the status says of a run of the work. Of a run over files and devices the clauses `relays` and `gateways`
-- of `amt` say the rest.
abbrev pub AnswersFor : Work → {S O : Type 0} → (S → Option (List ℕ)) → (S → ℕ) → (O → Option (List ℕ)) → (O → ℕ) → S → S → O → O → ℕ → Type 0
AnswersFor (reading X task) left reads written writes input input' out out' status =
    AnswersReading task left reads written writes input input' out out' status
AnswersFor (making text) left reads written writes input input' out out' status =
    AnswersMaking text reads written writes input input' out out' status
AnswersFor serving left reads written writes input input' out out' status = input' ≡ input

-- The status of a run over these arguments, with its input and output before and after. The functions are
-- the octets that are left and were written, where a device tells them, and how often it failed.
pub record Answers {S O : Type 0} (left : S → Option (List ℕ)) (reads : S → ℕ) (written : O → Option (List ℕ)) (writes : O → ℕ) (line : List (List ℕ)) (input input' : S) (out out' : O) (status : ℕ) : Type 0 where
  -- usage exactly where the arguments are no command's, unless memory runs out
  pub words : ((status ≡ 2) ⊎ (status ≡ 7)) ⊎ ((command : Command) × IsCommandLine command line)
  pub usage : status ≡ 2 → IsAccepted line → ⊥
  pub refused : (IsAccepted line → ⊥) → (status ≡ 2) ⊎ (status ≡ 7)
  pub of_command : (command : Command) → IsCommandLine command line
      → AnswersFor (work_of command) left reads written writes input input' out out' status
  pub write : status ≡ 5 → Rose (writes out) (writes out')
  pub calm_input : status ≢ 4 → reads input' ≡ reads input
  pub calm_output : status ≢ 5 → writes out' ≡ writes out
  pub within : (status ≡ 8 → ⊥) → TakesAtMost INPUT_LIMIT (left input) (left input')
  pub statuses : IsStatus status
  -- what is left alone
  pub untouched : ((command : Command) → IsCommandLine command line → ⊥) → (input' ≡ input) × (out' ≡ out)
  pub quiet : IsQuiet status → out' ≡ out

-- the line that tells a fault of the input or of the settings; no run that makes its text has one
abbrev pub IsFaultOf : Work → Option (List ℕ) → Option (List ℕ) → List ℕ → Type 0
IsFaultOf (reading X task) left left' text = IsFaultText task left left' text
IsFaultOf (making made) left left' text = ⊥
IsFaultOf serving left left' text = (fault : ConfigFault) × (text ≡ settings_line fault)

-- the line that tells a difference
abbrev pub IsDifferenceOf : Work → Option (List ℕ) → Option (List ℕ) → List ℕ → Type 0
IsDifferenceOf (reading X task) left left' text = IsDifferenceText task left left' text
IsDifferenceOf (making made) left left' text = ⊥
IsDifferenceOf serving left left' text = ⊥

-- the line of a run of the work with this status
pub record IsLineOfStatus (work : Work) (left left' : Option (List ℕ)) (status : ℕ) (text : List ℕ) : Type 0 where
  pub fault : status ≡ 3 → IsFaultOf work left left' text
  pub difference : status ≡ 9 → IsDifferenceOf work left left' text
  pub other : status ≢ 3 → status ≢ 9 → text ≡ status_line status

-- what a run with this status over these arguments and an input writes to standard error
pub record Reports {S E : Type 0} (left : S → Option (List ℕ)) (told : E → Option (List ℕ)) (failures : E → ℕ) (words : List (List ℕ)) (input input' : S) (err err' : E) (status : ℕ) : Type 0 where
  pub line : (command : Command) → IsCommandLine command words → (Rose (failures err) (failures err') → ⊥)
      → (text : List ℕ) × IsLineOfStatus (work_of command) (left input) (left input') status text × Appends (told err) (told err') text
  pub prefix : (command : Command) → IsCommandLine command words
      → (text : List ℕ) × IsLineOfStatus (work_of command) (left input) (left input') status text × WritesPrefix (told err) (told err') text
  -- where the arguments are no command's
  pub usage_line : ((command : Command) → IsCommandLine command words → ⊥) → (Rose (failures err) (failures err') → ⊥) → Appends (told err) (told err') (status_line status)
  pub usage_prefix : ((command : Command) → IsCommandLine command words → ⊥) → WritesPrefix (told err) (told err') (status_line status)
  pub silent : status ≡ 0 → err' ≡ err

-- what is written to standard error where memory runs out before there are arguments
pub record ReportsMemory {E : Type 0} (told : E → Option (List ℕ)) (failures : E → ℕ) (err err' : E) (status : ℕ) : Type 0 where
  pub status_is : status ≡ 7
  pub line : (Rose (failures err) (failures err') → ⊥) → Appends (told err) (told err') (status_line status)
  pub prefix : WritesPrefix (told err) (told err') (status_line status)
