-- One line that makes a socket call, as a gateway reads it from whoever controls it.
use Rattle.std.specs.{Prelude.{◌≡◌, ◌≢◌, ℕ, ◌-◌, ◌==◌, ◌⊎◌, true, is_some, List, ◌∷◌, ◌++◌, length, take, slice_index, Some, if◌then◌else◌}, Str.Lines.{strip_carriage_return}}
use Rattle.amt_values.specs.Conditions.{First}
use Rattle.group_records.specs.declared.family.Family.{Family}
use Rattle.gateway_machine.specs.{declared.event.GatewayEvent.{GatewayEvent}, Answers.{call_in}}
use Rattle.script_lines.specs.{declared.{fault.ScriptError.{ScriptError, TheVariants.{Fault, Memory}}, reason.Reason.{Reason, TheVariants.{Long, Word}}}, Lines.{IsPlain, IsShort, fields}}
use Rattle.gateway_script.specs.{declared.kind.LineKind.{LineKind}, Fault.{FailsAs, order_of_values}, Row.{words_of}, Says.{SaysEvent}}
use Rattle.gateway_script.specs.declared.kind.LineKind.TheVariants as kinds

-- the octets without a line feed at their end, and then without a carriage return
abbrev pub control_line : List ℕ → List ℕ
control_line bytes =
    if slice_index bytes (length bytes - 1) == 10 then strip_carriage_return (take (length bytes - 1) bytes) else bytes

-- the line is plain and not too long, and says a socket call to a gateway of the family
pub record SaysCall (family : Family) (event : GatewayEvent) (line : List ℕ) : Type 0 where
  pub short : IsShort line
  pub plain : IsPlain line
  pub says : SaysEvent (Some family) event (fields line)
  pub call : is_some (call_in event) ≡ true

-- the octets are such a line
abbrev pub IsSocketLine : Family → GatewayEvent → List ℕ → Type 0
IsSocketLine family event bytes = SaysCall family event (control_line bytes)

-- lines of this kind make socket calls
abbrev pub MakesCall : LineKind → Type 0
MakesCall (kinds.Set key) = ⊥
MakesCall kinds.Moment = ⊥
MakesCall kinds.Nonce = ⊥
MakesCall kinds.Datagram = ⊥
MakesCall kinds.Open = Unit {0}
MakesCall kinds.Change = Unit {0}
MakesCall kinds.Close = Unit {0}
MakesCall kinds.Leave = Unit {0}

-- what is wrong with a line of these fields: it makes no socket call, or a field of it fails
abbrev pub FailsAsCall : Family → List (List ℕ) → Reason → Type 0
FailsAsCall family line Word = (kind : LineKind) (values : List (List ℕ)) → MakesCall kind → line ≢ words_of kind ++ values
FailsAsCall family line reason =
    (kind : LineKind) × (values : List (List ℕ)) × MakesCall kind × (line ≡ words_of kind ++ values)
    × FailsAs (Some family) kind values reason

-- this is the first thing wrong with a line: its length, an octet of it, and then its fields
abbrev pub FailsFirstAsCall : Family → List ℕ → Reason → Type 0
FailsFirstAsCall family line reason =
    ((IsShort line → ⊥) × (reason ≡ Long))
    ⊎ (IsShort line × (((IsPlain line → ⊥) × (reason ≡ Word))
    ⊎ (IsPlain line × First (FailsAsCall family (fields line)) (Word ∷ order_of_values) reason)))

-- the error is the fault of the octets, in their one line; out of memory says nothing
abbrev pub IsSocketError : Family → List ℕ → ScriptError → Type 0
IsSocketError family bytes (Fault line reason) = (line ≡ 1) × FailsFirstAsCall family (control_line bytes) reason
IsSocketError family bytes Memory = Unit {0}

-- where the error is a fault, the octets make no socket call
abbrev pub RulesOutCalls : Family → List ℕ → ScriptError → Type 0
RulesOutCalls family bytes (Fault line reason) = (event : GatewayEvent) → IsSocketLine family event bytes → ⊥
RulesOutCalls family bytes Memory = Unit {0}
