-- What is said of a command that serves by a settings file: what it comes to, and how that is shown.
use Rattle.std.specs.{Prelude.{◌≡◌, ◌≢◌, ◌⊎◌, ◌==◌, ℕ, List, [], ◌∷◌, Option, Some, Result, Ok, Err, IfErr, IfOk, IsErrOf, IsTrue}, Io.KnownBytes.{Appends}, List.{list_any}}
use Rattle.amt_config.specs.declared.fault.ConfigFault.TheVariants.{Memory as ConfigMemory}
use Rattle.serving_commands.specs.{declared.{opening.{asked.Opening.{Opening}, live.Live.{Ghosts as LiveTells}}, fault.ServingFault.{ServingFault}}, Kinds.{SettingsKind}, Openings.{ComesFirst, IsRefusedFor}, Reading.{Decides, TellsFault}, Texts.{settings_line}}
use Rattle.amt_ports.specs.{Causes.{Rose}, declared.{files.Files.{Ghosts as FilesTell}, end.End.{End}}}
use Rattle.serving_commands.specs.declared.fault.ServingFault.TheVariants as faults
use Rattle.amt_ports.specs.declared.end.End.TheVariants as ends
use Rattle.script_lines.specs.Writing.{WritesPrefix}
use Rattle.amt_command.specs.{Ending.{line_of, status_of}, declared.ending.Ending.{Ending, TheVariants.{Fault, LinkFault, Memory, RandomFault, ReadFault, TooLong}}}

-- how the command ends where its run has this end
abbrev pub ending_of_end : End → Result (Unit {0}) Ending
ending_of_end ends.Turns = Ok tt
ending_of_end ends.Closed = Ok tt
ending_of_end ends.LinkFault = Err LinkFault
ending_of_end ends.FeedFault = Err LinkFault
ending_of_end ends.SpawnFault = Err LinkFault
ending_of_end ends.WordsFault = Err RandomFault
ending_of_end ends.Memory = Err Memory

-- and where there was no run
abbrev pub ending_of_fault : ServingFault → Ending
ending_of_fault faults.NotRead = ReadFault
ending_of_fault faults.TooLong = TooLong
ending_of_fault (faults.Settings fault) = Fault (settings_line fault)
ending_of_fault faults.NotOpened = LinkFault
ending_of_fault faults.Memory = Memory

-- a fault that has a line, if it is one of the settings: out of memory there is none
abbrev pub HasLine : ServingFault → Type 0
HasLine (faults.Settings fault) = fault ≢ ConfigMemory
HasLine fault = Unit {0}

-- What a run's report tells: why the run ended, and the text of its counts.
pub record Reporting (R : Type 0) : Type 0 where
  pub end_of : R → End
  pub text_of : R → List ℕ

module _ {R : Type 0} (reporting : Reporting R) where
  -- how the command ends after this answer, where nothing fails after it
  abbrev pub ending_of_answer : Result R ServingFault → Result (Unit {0}) Ending
  ending_of_answer (Ok report) = ending_of_end (reporting.end_of report)
  ending_of_answer (Err fault) = Err (ending_of_fault fault)

  -- the counts of its run
  abbrev pub text_of_answer : Result R ServingFault → List ℕ
  text_of_answer (Ok report) = reporting.text_of report
  text_of_answer (Err fault) = []

-- memory can still run out after an answer with this status: for the text of its counts, for the line of a
-- fault of the settings; or it ran out before
abbrev pub TakesMemory : ℕ → Type 0
TakesMemory status = IsTrue (list_any (λ known. known == status) (0 ∷ 3 ∷ 7 ∷ []))

-- What a status and a line show of an answer, and what is written: the counts under status 0, a prefix of them
-- under 5, nothing under every other status.
pub record Shows {R T : Type 0} (reporting : Reporting R) (answer : Result R ServingFault) (written : T → Option (List ℕ)) (out out' : T) (status : ℕ) (line : List ℕ) : Type 0 where
  pub same : status ≢ 5 → status ≢ 7 → status ≡ status_of (ending_of_answer reporting answer)
  pub write : status ≡ 5 → status_of (ending_of_answer reporting answer) ≡ 0
  pub memory : status ≡ 7 → TakesMemory (status_of (ending_of_answer reporting answer))
  pub done : status ≡ 0 → Appends (written out) (written out') (text_of_answer reporting answer)
  pub begun : status ≡ 5 → WritesPrefix (written out) (written out') (text_of_answer reporting answer)
  pub quiet : status ≢ 0 → status ≢ 5 → out' ≡ out
  pub fault : status ≡ 3 → line ≡ line_of (ending_of_answer reporting answer)

-- What a command serves as: by which kind of settings file, on which devices, by these settings; what is said of
-- a run by the file's content, from one state of the place of devices to another, with its report; and what that tells.
pub record Service (V S R : Type 0) : Type 1 where
  pub kind : SettingsKind S
  pub opening_by : S → Opening
  pub Runs : Option (List ℕ) → V → V → R → Type 0
  pub reporting : Reporting R

module _ {F V R G S T : Type 0} (kept : FilesTell F) (told : LiveTells V R G) (service : Service V S T) (file : List ℕ) (files files' : F) (live live' : V) where
  -- What is known of the answer of a run by the settings of this file: the run behind a report, or why there was
  -- none, and what was asked of files and devices.
  pub record ComesTo (answer : Result T ServingFault) : Type 0 where
    pub ran : IfOk answer (λ report. ∥ service.Runs (kept.contents files file) live live' report ∥₁)
    -- of the file
    pub unread : IsErrOf answer faults.NotRead → Rose (kept.faults files) (kept.faults files')
    pub absent : kept.lacks files file → IsErrOf answer faults.NotRead
    pub fault : IfErr answer (TellsFault service.kind (kept.contents files file))
    pub decided : (bytes : List ℕ) → kept.contents files file ≡ Some bytes → Decides service.kind bytes answer
    pub calm_files : (IsErrOf answer faults.NotRead → ⊥) → kept.faults files' ≡ kept.faults files
    pub same_files : (other : List ℕ) → kept.contents files' other ≡ kept.contents files other
    -- of the devices
    pub unopened : IsErrOf answer faults.NotOpened → Rose (told.faults live) (told.faults live')
    pub refused : IsErrOf answer faults.NotOpened → IsRefusedFor told service.kind service.opening_by (kept.contents files file) live live'
    pub memory : IsErrOf answer faults.Memory
        → (live' ≡ live) ⊎ IsRefusedFor told service.kind service.opening_by (kept.contents files file) live live'
    pub unasked : IfErr answer (λ fault. ComesFirst fault → live' ≡ live)
    pub calm_live : (IsErrOf answer faults.NotOpened → ⊥) → told.faults live' ≡ told.faults live

  -- What the command does with its arguments, as its status and its line show: nothing was touched, since memory
  -- ran out for the arguments; or they show this answer.
  pub data Serves {A : Type 0} (written : A → Option (List ℕ)) (out out' : A) (status : ℕ) (line : List ℕ) : Type 0 where
    untouched : status ≡ 7 → files' ≡ files → live' ≡ live → out' ≡ out → Serves written out out' status line
    answered : (answer : Result T ServingFault) → ComesTo answer → Shows service.reporting answer written out out' status line → Serves written out out' status line

-- What the command writes to standard error beside that.
pub record ServesAndTells {E : Type 0} (Shown : List ℕ → Type 0) (told : E → Option (List ℕ)) (failures : E → ℕ) (err err' : E) : Type 0 where
  pub text : List ℕ
  pub shown : Shown text
  pub line : (Rose (failures err) (failures err') → ⊥) → Appends (told err) (told err') text
  pub prefix : WritesPrefix (told err) (told err') text
