-- What a pair of both ends with dual gateways stands for.
use Rattle.std.specs.Prelude.{◌≡◌, ◌<◌, ◌+◌, ℕ, true, List, [], ◌∷◌, get_or, length, map, take, All, if◌then◌else◌}
use Rattle.gateway_machine.specs.declared.event.GatewayEvent.{GatewayEvent, TheVariants.{Moment as Passes}}
use Rattle.relay_machine.specs.{Answers.{RelayAt}, declared.{event.Event.TheVariants.{Moment}, relay.Relay.{Relay}}}
use Rattle.amt_pair.specs.{Members.{AreMembersAt, host_of, kept_upward}, Parts.{relay_step}, Schedule.{Course, Member, answer_at}, Setup.{Host, PairSetup}, State.{moment_reached, with_member_at}}
use Rattle.amt_dual.specs.{Answers.{is_ignored}, Parts.{machine_part, machine_parts}, Schedule.{IsDualPairEvent, dual_course_of}, Setup.{DualSetup, IsLawfulDualSetup, machines_in}, Twins.{are_of_one}}
use Rattle.amt_dual.specs.declared.{event.DualPairEvent.{DualPairEvent, TheVariants.{Moment as MomentForAll}}, pair.DualPair.{DualPair}, step.DualPart.{DualPart, TheVariants.{Relay as RelayPart}}}

-- the machines of the gateways, in the order in which they were added
abbrev pub machines : DualPair → List Host
machines pair = map host_of pair.gateways

-- relay and machines are where the course leaves them, and the datagrams that are kept are those that were sent in it
pub record StandsFor (pair : DualPair) (setup : PairSetup) (course : Course) : Type 0 where
  pub relay : RelayAt pair.relay setup.settings setup.secret course.relay
  pub gateways : AreMembersAt pair.gateways course.members
  pub up : pair.up ≡ map kept_upward course.up
  pub down : pair.down ≡ course.down

-- the pair is where the schedule leads from such a setup
pub record DualPairAt (pair : DualPair) (setup : DualSetup) (schedule : List DualPairEvent) : Type 0 where
  pub setup_lawful : IsLawfulDualSetup setup
  pub events_may_come : All (IsDualPairEvent (machines_in setup).hosts) schedule
  pub stands : StandsFor pair (machines_in setup) (dual_course_of setup schedule)

-- a fact of a setup and a schedule holds of all those after which the pair may be
abbrev pub After : DualPair → (DualSetup → List DualPairEvent → Type 0) → Type 0
After pair Fact = (setup : DualSetup) (schedule : List DualPairEvent) → DualPairAt pair setup schedule → Fact setup schedule

-- a fact of a setup and a course holds of all those for which the pair stands
abbrev pub ForCourse : DualPair → (PairSetup → Course → Type 0) → Type 0
ForCourse pair Fact = (setup : PairSetup) (course : Course) → StandsFor pair setup course → Fact setup course

-- and of those in which the relay alone is where the course leaves it
abbrev pub ForRelay : Relay → (PairSetup → Course → Type 0) → Type 0
ForRelay relay Fact = (setup : PairSetup) (course : Course) → RelayAt relay setup.settings setup.secret course.relay → Fact setup course

-- and of the machines of one gateway, at a place and after it
abbrev pub ForTwins : DualPair → ℕ → (PairSetup → Course → Member → Member → Type 0) → Type 0
ForTwins pair place Fact =
    (setup : PairSetup) (course : Course) (v4 v6 : Member) → StandsFor pair setup course → get_or course.members place v4 ≡ v4
    → get_or course.members (place + 1) v6 ≡ v6 → are_of_one v4.host v6.host ≡ true → Fact setup course v4 v6

-- the parts of a delivery to these machines: of the IPv6 one where the IPv4 one ignored it
abbrev pub twin_parts : GatewayEvent → Member → Member → List DualPart
twin_parts event v4 v6 =
    if is_ignored (answer_at v4 event).outcome then machine_part event v4 ∷ machine_part event v6 ∷ [] else machine_part event v4 ∷ []

-- and the course after it, where they are at the place and after it
abbrev pub with_twins_at : Course → GatewayEvent → ℕ → Member → Member → Course
with_twins_at course event place v4 v6 =
    if is_ignored (answer_at v4 event).outcome then with_member_at (with_member_at course event place v4) event (place + 1) v6
    else with_member_at course event place v4

-- how many datagrams were sent to the relay, and by it
abbrev pub sent_up : DualPair → ℕ
sent_up pair = length pair.up

abbrev pub sent_down : DualPair → ℕ
sent_down pair = length pair.down

-- out of memory stopped a moment on its way: the relay and the first machines took their steps, whose parts these are, and
-- the machines after them took none
pub record IsStarved (setup : PairSetup) (course : Course) (at : ℕ) (pair : DualPair) (parts : List DualPart) : Type 0 where
  pub count : ℕ
  pub some : count < length course.members
  pub parts_are : parts ≡ RelayPart (relay_step setup course (Moment at)) ∷ machine_parts (Passes at) (take count course.members)
  pub stands : StandsFor pair setup (moment_reached setup course at count)

-- the event is a moment that was stopped on its way
abbrev pub HasStarved : PairSetup → Course → DualPairEvent → DualPair → List DualPart → Type 0
HasStarved setup course event pair parts = (at : ℕ) × (event ≡ MomentForAll at) × IsStarved setup course at pair parts
