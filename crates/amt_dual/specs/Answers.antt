-- What an event comes to at each machine of a dual gateway: one for IPv4 groups and one for IPv6 groups, as one host speaks
-- IGMPv3 and MLDv2 from one socket (RFC 7450, section 4.1.2).
use Rattle.std.specs.Prelude.{◌≡◌, ◌≤◌, ℕ, ◌+◌, ◌%◌, ◌^◌, not, Bool, true, false, List, [], ◌∷◌, ◌++◌, length, Option, Some, None, is_some, if◌then◌else◌}
use Rattle.amt_pair.specs.Parts.{gateway_step}
use Rattle.gateway_machine.specs.{Answers.{Answer, call_in}, Events.{IsEventOf}, Outcomes.{IsRefused}, Runs.{GatewayAt, Run, answer_in, run_of, settings_of}, Settings.{HasSourceOfFamily}}
use Rattle.gateway_machine.specs.declared.{event.GatewayEvent.{GatewayEvent, TheVariants.{Datagram as Heard, Moment as Passes}}, outcome.GatewayOutcome.{GatewayOutcome, TheVariants.{Ignored}}, settings.GatewaySettings.{GatewaySettings}, step.GatewayStep.{GatewayStep}}
use Rattle.amt_dual.specs.declared.{dual.Dual.{Dual}, event.DualEvent.{DualEvent, TheVariants.{Datagram, Moment, Socket}}, step.DualStep.{DualStep}}

-- ---- which machines take an event

-- what the event is for a machine that takes it
abbrev pub machine_event : DualEvent → GatewayEvent
machine_event (Moment at) = Passes at
machine_event (Datagram from bytes) = Heard from bytes
machine_event (Socket v6 event) = event

-- a datagram was ignored
abbrev pub is_ignored : GatewayOutcome → Bool
is_ignored (Ignored cause) = true
is_ignored outcome = false

-- the machine is the one that is named
abbrev pub is_machine : Bool → Bool → Bool
is_machine named v6 = if named then v6 else not v6

-- The machine of this family takes the event: a moment comes to both, a datagram to the IPv4 machine and, exactly where
-- that one ignores it, to the IPv6 machine too, and a socket call to the machine that is named.
abbrev pub comes_to : Bool → DualEvent → Bool → Bool
comes_to ignored (Moment at) v6 = true
comes_to ignored (Datagram from bytes) v6 = if v6 then ignored else true
comes_to ignored (Socket named event) v6 = is_machine named v6

-- ---- a dual gateway

-- the settings of both machines, and the first nonce of the IPv4 one
pub record DualSettings : Type 0 where
  pub v4 : GatewaySettings
  pub v6 : GatewaySettings
  pub nonce : ℕ

-- each machine is of its family, and its reports go out from an address of it
pub record AreLawfulMachines (settings : DualSettings) : Type 0 where
  pub v4 : settings.v4.v6 ≡ false
  pub v6 : settings.v6.v6 ≡ true
  pub source4 : HasSourceOfFamily settings.v4
  pub source6 : HasSourceOfFamily settings.v6

-- the settings of a machine
abbrev pub settings_by : DualSettings → Bool → GatewaySettings
settings_by settings v6 = if v6 then settings.v6 else settings.v4

-- the first nonce of a machine: that of the IPv6 one is half of all nonces away
abbrev pub nonce_for : ℕ → Bool → ℕ
nonce_for nonce v6 = if v6 then (nonce + 2 ^ 31) % 2 ^ 32 else nonce

-- the events that each machine took, in order
pub record DualCourse : Type 0 where
  pub v4 : List GatewayEvent
  pub v6 : List GatewayEvent

-- and those of one machine
abbrev pub events_by : DualCourse → Bool → List GatewayEvent
events_by course v6 = if v6 then course.v6 else course.v4

-- the run of a machine
abbrev pub machine_run : DualSettings → DualCourse → Bool → Run
machine_run settings course v6 = run_of (settings_by settings v6) (nonce_for settings.nonce v6) (events_by course v6)

-- what the event comes to at a machine that takes it
abbrev pub answer_by : DualSettings → DualCourse → DualEvent → Bool → Answer
answer_by settings course event v6 = answer_in (settings_by settings v6) (machine_run settings course v6) (machine_event event)

-- whether a machine takes the event after these events
abbrev pub takes : DualSettings → DualCourse → DualEvent → Bool → Bool
takes settings course event v6 = comes_to (is_ignored (answer_by settings course event false).outcome) event v6

-- the step of a machine, if it takes the event
abbrev pub dual_answer : DualSettings → DualCourse → DualEvent → Bool → Option GatewayStep
dual_answer settings course event v6 = if takes settings course event v6 then Some (gateway_step (answer_by settings course event v6)) else None

-- the course with one more event
abbrev pub with_dual_event : DualSettings → DualCourse → DualEvent → DualCourse
with_dual_event settings course event = record {
  v4 = if takes settings course event false then course.v4 ++ machine_event event ∷ [] else course.v4;
  v6 = if takes settings course event true then course.v6 ++ machine_event event ∷ [] else course.v6;
}

-- before any event
abbrev pub dual_start : DualCourse
dual_start = record { v4 = []; v6 = [] }

-- ---- what a dual gateway stands for

-- each machine is where its events leave it
pub record DualAt (dual : Dual) (settings : DualSettings) (course : DualCourse) : Type 0 where
  pub v4 : GatewayAt dual.v4 settings.v4 (nonce_for settings.nonce false) course.v4
  pub v6 : GatewayAt dual.v6 settings.v6 (nonce_for settings.nonce true) course.v6

-- a fact of settings and a course holds of all those for which the dual gateway stands
abbrev pub DualAfter : Dual → (DualSettings → DualCourse → Type 0) → Type 0
DualAfter dual Fact = (settings : DualSettings) (course : DualCourse) → DualAt dual settings course → Fact settings course

-- the settings of the machine of a family
abbrev pub settings_at : Dual → Bool → GatewaySettings
settings_at dual v6 = if v6 then settings_of dual.v6 else settings_of dual.v4

-- the event may come: a datagram of at most 65,535 octets, and a socket call as the settings of its machine allow
abbrev pub MayComeTo : Dual → DualEvent → Type 0
MayComeTo dual (Datagram from bytes) = length bytes ≤ 65535
MayComeTo dual (Socket v6 event) = (is_some (call_in event) ≡ true) × IsEventOf (settings_at dual v6) event
MayComeTo dual event = Unit {0}

-- the step has what the event comes to at each machine
pub record AreSteps (settings : DualSettings) (course : DualCourse) (event : DualEvent) (step : DualStep) : Type 0 where
  pub v4 : step.v4 ≡ dual_answer settings course event false
  pub v6 : step.v6 ≡ dual_answer settings course event true

-- a machine took no step, or it refused a call or ignored a datagram
abbrev pub HasRefused : Option GatewayStep → Type 0
HasRefused None = Unit {0}
HasRefused (Some step) = IsRefused step.outcome

-- and so did the other
pub record HaveRefused (step : DualStep) : Type 0 where
  pub v4 : HasRefused step.v4
  pub v6 : HasRefused step.v6

-- memory stopped a moment between the machines: the IPv4 one took its step, and the IPv6 one took none
pub record HasStarvedBetween (settings : DualSettings) (course : DualCourse) (event : DualEvent) (dual : Dual) (step : DualStep) : Type 0 where
  pub at : ℕ
  pub moment : event ≡ Moment at
  pub v4 : step.v4 ≡ dual_answer settings course event false
  pub v6 : step.v6 ≡ None
  pub stands : DualAt dual settings (record { v4 = course.v4 ++ machine_event event ∷ []; v6 = course.v6 })
