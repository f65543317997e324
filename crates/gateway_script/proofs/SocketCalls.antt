-- Lines that make socket calls, and lines that don't.
use Rattle.std.proofs.Common.{◌≡◌, ◌↔◌, ℕ, true, is_some, List, ◌∷◌, ◌++◌, Some, inl, inr, refl, sym, subst, ◌∙◌}
use Rattle.amt_values.specs.Conditions.{First}
use Rattle.group_records.specs.declared.family.Family.{Family}
use Rattle.gateway_machine.specs.{declared.event.GatewayEvent.{GatewayEvent}, Answers.{call_in}}
use Rattle.gateway_machine.specs.declared.event.GatewayEvent.TheVariants as events
use Rattle.script_lines.{specs.{declared.{fault.{LineError.{LineError, TheVariants.{Bad, Memory}}, ScriptError.{ScriptError}}, reason.Reason.{Reason}}, Lines.{IsPlain, IsShort, fields}, Reading.{FailsFirst}}, proofs.Firsts.{First-holds, First-same}}
use Rattle.script_lines.specs.declared.fault.ScriptError.TheVariants as errors
use Rattle.script_lines.specs.declared.reason.Reason.TheVariants as reasons
use Rattle.gateway_script.{specs.{declared.kind.LineKind.{LineKind}, Fault.{FailsAs, order_of_values}, Row.{words_of}, Says.{SaysEvent}, SocketLine.{FailsAsCall, FailsFirstAsCall, IsSocketError, IsSocketLine, MakesCall, RulesOutCalls, SaysCall, control_line}}, proofs.{Judging.{each_of, fails_as}, Rows.{same_kind}, Says.{kind_of_event, event_is_fit}, Unique.{SaysEvent-unique}}}

-- the line makes a socket call, and the fields after its word fail
abbrev FailsInCall : Family → List (List ℕ) → Reason → Type 0
FailsInCall family line reason =
    (kind : LineKind) × (values : List (List ℕ)) × MakesCall kind × (line ≡ words_of kind ++ values) × FailsAs (Some family) kind values reason

in_call : (family : Family) (kind : LineKind) (values line : List (List ℕ)) (reason : Reason) → MakesCall kind → line ≡ words_of kind ++ values
    → FailsAs (Some family) kind values reason ↔ FailsInCall family line reason
in_call family kind values line reason makes parts = (λ h. (kind, values, makes, parts, h), λ f. fails_as (Some family) kind values line reason parts (f.0, f.1, f.3, f.4))

-- what is wrong with the fields after a call's first word is what is wrong with its line
pub call_judged : (family : Family) (kind : LineKind) (values line : List (List ℕ)) (error : LineError) → MakesCall kind → line ≡ words_of kind ++ values
    → FailsFirst (FailsAs (Some family) kind values) order_of_values error → FailsFirst (FailsAsCall family line) (reasons.Word ∷ order_of_values) error
call_judged family kind values line (Bad reason) makes parts first =
    inr (
      λ none. none kind values makes parts,
      First-same (FailsAs (Some family) kind values) (FailsInCall family line) order_of_values reason
          (each_of (λ reason. FailsAs (Some family) kind values reason ↔ FailsInCall family line reason) order_of_values (λ reason. in_call family kind values line reason makes parts)) first,
    )
call_judged family kind values line Memory makes parts first = tt

calls_of_kind : (event : GatewayEvent) → MakesCall (kind_of_event event) → is_some (call_in event) ≡ true
calls_of_kind (events.Moment ms) makes = absurd makes
calls_of_kind (events.Nonce nonce) makes = absurd makes
calls_of_kind (events.Datagram from bytes) makes = absurd makes
calls_of_kind event makes = refl

kind_of_call : (event : GatewayEvent) → is_some (call_in event) ≡ true → MakesCall (kind_of_event event)
kind_of_call (events.Open name group filter) call = tt
kind_of_call (events.Change name filter) call = tt
kind_of_call (events.Close name) call = tt
kind_of_call events.LeaveAll call = tt
kind_of_call event call = cc call

-- what such a line says is a socket call
pub says_call : (family : Family) (event : GatewayEvent) (kind : LineKind) (values line : List (List ℕ)) → MakesCall kind → line ≡ words_of kind ++ values
    → SaysEvent (Some family) event line → is_some (call_in event) ≡ true
says_call family event kind values line makes parts says =
    let fit = event_is_fit (Some family) event line says in
    calls_of_kind event (subst MakesCall (same_kind kind (kind_of_event event) values fit.values (sym parts ∙ fit.parts)) makes)

-- no field of a line that says a call fails
pub call_is_good : (family : Family) (event : GatewayEvent) (line : List (List ℕ)) (reason : Reason) → SaysEvent (Some family) event line → is_some (call_in event) ≡ true
    → FailsAsCall family line reason → ⊥
call_is_good family event line reasons.Word says call fails =
    let fit = event_is_fit (Some family) event line says in
    fails (kind_of_event event) fit.values (kind_of_call event call) fit.parts
call_is_good family event line reason says call fails =
    let fit = event_is_fit (Some family) event line says in
    fit.fits reason (fails_as (Some family) (kind_of_event event) fit.values line reason fit.parts (fails.0, fails.1, fails.3, fails.4))

no_call : (family : Family) (event : GatewayEvent) (line : List ℕ) (reason : Reason) → FailsFirstAsCall family line reason → SaysCall family event line → ⊥
no_call family event line reason (inl long) says = long.0 says.short
no_call family event line reason (inr (short, inl glyph)) says = glyph.0 says.plain
no_call family event line reason (inr (short, inr (plain, first))) says =
    call_is_good family event (fields line) reason says.says says.call (First-holds (FailsAsCall family (fields line)) (reasons.Word ∷ order_of_values) reason first)

-- a short and plain line is bad for the first reason in its fields
pub line_fault : (family : Family) (bytes line : List ℕ) (reason : Reason) → line ≡ control_line bytes → IsShort line → IsPlain line
    → First (FailsAsCall family (fields line)) (reasons.Word ∷ order_of_values) reason → IsSocketError family bytes (errors.Fault 1 reason)
line_fault family bytes line reason is short plain first =
    (refl, subst (λ (octets : List ℕ). FailsFirstAsCall family octets reason) is (inr (short, inr (plain, first))))

-- octets that have a fault make no socket call
pub fault_rules_out : (family : Family) (bytes : List ℕ) (error : ScriptError) → IsSocketError family bytes error → RulesOutCalls family bytes error
fault_rules_out family bytes (errors.Fault line reason) fault = λ event says. no_call family event (control_line bytes) reason fault.1 says
fault_rules_out family bytes errors.Memory fault = tt

pub IsSocketLine-unique : (family : Family) (one other : GatewayEvent) (bytes : List ℕ) → IsSocketLine family one bytes → IsSocketLine family other bytes → one ≡ other
IsSocketLine-unique family one other bytes h k = SaysEvent-unique (Some family) one other (fields (control_line bytes)) h.says k.says
