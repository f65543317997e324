-- The two machines of a gateway in a pair, beside a dual gateway by itself.
use Rattle.std.specs.Prelude.{◌≡◌, ◌<◌, ℕ, ◌+◌, ◌&&◌, Bool, true, List, [], ◌∷◌, get_or, length, filter_map, Option, Some, None, if◌then◌else◌}
use Rattle.amt_values.specs.Endpoint.{endpoint_of}
use Rattle.socket_merge.specs.History.{same_name}
use Rattle.relay_machine.specs.declared.sends.OneSend.{OneSend}
use Rattle.gateway_machine.specs.declared.step.GatewayStep.{GatewayStep}
use Rattle.amt_pair.specs.{Schedule.{Course, Member, is_endpoint, numbered}, Setup.{Host, PairSetup}}
use Rattle.amt_dual.specs.{Answers.{DualCourse, DualSettings, dual_answer, is_machine, with_dual_event}, Schedule.{arrival}, Twins.{are_of_one}}
use Rattle.amt_dual.specs.declared.{event.{DualEvent.{DualEvent, TheVariants.{Moment as Passes, Socket as Called}}, DualPairEvent.{DualPairEvent, TheVariants.{Down, Moment, Socket}}}, step.DualPart.{DualPart, TheVariants.{Gateway}}}

-- the machines of one gateway, at the place and after it
pub record AreMachinesOfOne (members : List Member) (place : ℕ) (v4 v6 : Member) : Type 0 where
  pub within : place + 1 < length members
  pub here : get_or members place v4 ≡ v4
  pub next : get_or members (place + 1) v6 ≡ v6
  pub twins : are_of_one v4.host v6.host ≡ true

-- with what both began, and what each took
abbrev pub settings_of_both : Member → Member → DualSettings
settings_of_both v4 v6 = record { v4 = v4.host.settings; v6 = v6.host.settings; nonce = v4.first }

abbrev pub course_of_both : Member → Member → DualCourse
course_of_both v4 v6 = record { v4 = v4.events; v6 = v6.events }

-- what a delivery is to the gateway of this host, if it comes to its endpoint
abbrev pub delivery_for : PairSetup → Host → Option OneSend → Option DualEvent
delivery_for setup host None = None
delivery_for setup host (Some send) = if is_endpoint send.to (endpoint_of host.peer) then Some (arrival setup send) else None

-- what an event of a pair is to it, if anything
abbrev pub event_for : PairSetup → Course → Host → DualPairEvent → Option DualEvent
event_for setup course host (Moment at) = Some (Passes at)
event_for setup course host (Socket name v6 event) = if same_name name host.name then Some (Called v6 event) else None
event_for setup course host (Down number) = delivery_for setup host (numbered course.down number)
event_for setup course host event = None

-- what it took after that
abbrev pub taken_by_itself : DualSettings → DualCourse → Option DualEvent → DualCourse
taken_by_itself settings course None = course
taken_by_itself settings course (Some event) = with_dual_event settings course event

-- a list of one, or of none
abbrev pub listed : {X : Type 0} → Option X → List X
listed None = []
listed (Some x) = x ∷ []

-- the step of a dual gateway's machine, if the event is anything to it
abbrev pub step_by_itself : DualSettings → DualCourse → Bool → Option DualEvent → List GatewayStep
step_by_itself settings course v6 None = []
step_by_itself settings course v6 (Some event) = listed (dual_answer settings course event v6)

-- the step in a part of the machine of this name and family
abbrev pub step_in : List ℕ → Bool → DualPart → Option GatewayStep
step_in name v6 (Gateway called family step) = if same_name name called && is_machine v6 family then Some step else None
step_in name v6 part = None

-- its steps among parts
abbrev pub steps_in : List ℕ → Bool → List DualPart → List GatewayStep
steps_in name v6 parts = filter_map (step_in name v6) parts
