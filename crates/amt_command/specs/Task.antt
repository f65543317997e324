-- What a command makes of its input, and what it reads and writes of it.
use Rattle.std.specs.{Prelude.{◌≡◌, ◌⊎◌, ℕ, ◌≤◌, List, [], ◌∷◌, ◌++◌, length, Option, None, Some, codes, decimal}, Io.KnownBytes.{Appends}}
use Rattle.amt_ports.specs.Reading.{TakesAll}
use Rattle.amt_values.specs.declared.bytes.TheConstants.{INPUT_LIMIT}
use Rattle.script_lines.specs.{declared.{reason.Reason.{Reason}, fault.ScriptError.{ScriptError}}, Kind.{Kind}, Script.{Spells, IsFaultAt}, Texts.{reason_word}, Writing.{WritesPrefix}}
use Rattle.script_lines.specs.declared.fault.ScriptError.TheVariants as errors
use Rattle.amt_command.specs.declared.task.TaskFault.{TaskFault}
use Rattle.amt_command.specs.declared.task.TaskFault.TheVariants as faults

-- What a command makes of its input.
-- `Reads value bytes`: the octets are read as this value.
-- `HasFault text bytes`: they can't be, and this text says why; on standard error it follows `amt: `.
-- `text value`: what is written of it.
-- `difference value`: what is told in place of the text, where the value isn't what it should be.
pub record Task (X : Type 0) : Type 1 where
  pub Reads : X → List ℕ → Type 0
  pub HasFault : List ℕ → List ℕ → Type 0
  pub text : X → List ℕ
  pub difference : X → Option (List ℕ)

-- `line L: REASON`
abbrev pub line_text : ℕ → Reason → List ℕ
line_text line reason = codes "line " ++ (decimal line ++ (codes ": " ++ reason_word reason))

-- the text gives the first line of the octets that is bad for this kind of script, and the first reason in it
pub record TellsLine {S W : Type 0} (kind : Kind S W) (text bytes : List ℕ) : Type 0 where
  pub line : ℕ
  pub reason : Reason
  pub fault : IsFaultAt kind line reason bytes
  pub text_is : text ≡ line_text line reason

-- scripts of a kind are replayed: the text of each is written
abbrev pub replay_task : {S W : Type 0} → Kind S W → (W → List ℕ) → Task W
replay_task kind text = record { Reads = Spells kind; HasFault = TellsLine kind; text = text; difference = λ script. None }

-- What a command does: it reads its input as something and writes a text of it, or it writes a text that its
-- words alone make, or it serves over files and devices and leaves its input alone.
pub data Work : Type 1 where
  reading : (X : Type 0) → Task X → Work
  making : List ℕ → Work
  serving : Work

-- the error is the fault of the octets, which can't be read; out of memory says nothing
abbrev pub IsErrorBy : {X : Type 0} → Task X → List ℕ → TaskFault → Type 0
IsErrorBy {X = X} task bytes (faults.Fault text) = ((value : X) → task.Reads value bytes → ⊥) × task.HasFault text bytes
IsErrorBy task bytes faults.Memory = Unit {0}

-- the fault gives the line and the reason of the error, or memory ran out
abbrev pub TellsError : ScriptError → TaskFault → Type 0
TellsError (errors.Fault line reason) fault = (fault ≡ faults.Fault (line_text line reason)) ⊎ (fault ≡ faults.Memory)
TellsError errors.Memory fault = fault ≡ faults.Memory

-- the input was read to its end, within its limit, and is read as this value
pub record IsInput {X : Type 0} (task : Task X) (left left' : Option (List ℕ)) (value : X) : Type 0 where
  pub bytes : List ℕ
  pub read : TakesAll left left' bytes
  pub short : length bytes ≤ INPUT_LIMIT
  pub meant : task.Reads value bytes

-- the input was read to its end, is as it should be, and its text was written
pub record Writes {X : Type 0} (task : Task X) (left left' written written' : Option (List ℕ)) : Type 0 where
  pub value : X
  pub input : IsInput task left left' value
  pub agrees : task.difference value ≡ None
  pub text : Appends written written' (task.text value)

-- the input was read to its end, is as it should be, and a prefix of its text was written
pub record BeginsToWrite {X : Type 0} (task : Task X) (left left' written written' : Option (List ℕ)) : Type 0 where
  pub value : X
  pub input : IsInput task left left' value
  pub agrees : task.difference value ≡ None
  pub text : WritesPrefix written written' (task.text value)

-- `amt: ` and a text
abbrev pub error_line : List ℕ → List ℕ
error_line text = codes "amt: " ++ (text ++ (10 ∷ []))

-- the input was read to its end, within its limit, and can't be read as any value; the text says why
pub record IsFaultText {X : Type 0} (task : Task X) (left left' : Option (List ℕ)) (text : List ℕ) : Type 0 where
  pub bytes : List ℕ
  pub read : TakesAll left left' bytes
  pub short : length bytes ≤ INPUT_LIMIT
  pub nothing : (value : X) → task.Reads value bytes → ⊥
  pub told : List ℕ
  pub fault : task.HasFault told bytes
  pub text_is : text ≡ error_line told

-- the input was read to its end and isn't as it should be; the text gives the difference
pub record IsDifferenceText {X : Type 0} (task : Task X) (left left' : Option (List ℕ)) (text : List ℕ) : Type 0 where
  pub value : X
  pub input : IsInput task left left' value
  pub difference : List ℕ
  pub differs : task.difference value ≡ Some difference
  pub text_is : text ≡ error_line difference

-- octets are read as one value at most, and have one fault at most
abbrev pub HasOneValue : Work → Type 0
HasOneValue (reading X task) = (bytes : List ℕ) (one other : X) → task.Reads one bytes → task.Reads other bytes → one ≡ other
HasOneValue (making text) = Unit {0}
HasOneValue serving = Unit {0}

abbrev pub HasOneFaultFor : Work → Type 0
HasOneFaultFor (reading X task) =
    (bytes text text' : List ℕ) → task.HasFault text bytes → task.HasFault text' bytes → text ≡ text'
HasOneFaultFor (making text) = Unit {0}
HasOneFaultFor serving = Unit {0}
