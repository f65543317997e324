-- What a pair stands for.
use Rattle.std.specs.{Prelude.{◌≡◌, ◌<◌, ℕ, List, ◌∷◌, ◌++◌, drop, get_or, length, map, set, take, All, None}, List.{flat_map}}
use Rattle.gateway_machine.specs.declared.event.GatewayEvent.{GatewayEvent, TheVariants.{Moment as Passes}}
use Rattle.relay_machine.specs.{Answers.{RelayAt}, declared.event.Event.TheVariants.{Moment}}
use Rattle.amt_pair.specs.{Members.{AreMembersAt, host_of, kept_upward}, Parts.{gateway_parts, relay_step}, Schedule.{Course, IsPairEvent, Member, course_of, upwards_on, with_gateway_event, with_relay_event}, Setup.{Host, IsLawfulSetup, PairSetup}, declared.{event.PairEvent.{PairEvent, TheVariants.{Moment as MomentForAll}}, pair.Pair.{Pair}, step.Part.{Part, TheVariants.{Relay}}}}

-- the gateways of a pair, in the order in which they were added
abbrev pub hosts_of : Pair → List Host
hosts_of pair = map host_of pair.gateways

-- relay and gateways are where the course leaves them, and the datagrams that are kept are those that were
-- sent in it
pub record StandsFor (pair : Pair) (setup : PairSetup) (course : Course) : Type 0 where
  pub relay : RelayAt pair.relay setup.settings setup.secret course.relay
  pub gateways : AreMembersAt pair.gateways course.members
  pub up : pair.up ≡ map kept_upward course.up
  pub down : pair.down ≡ course.down

-- the pair is where the schedule leads from such a setup
pub record PairAt (pair : Pair) (setup : PairSetup) (schedule : List PairEvent) : Type 0 where
  pub setup_lawful : IsLawfulSetup setup
  pub events_may_come : All (IsPairEvent setup.hosts) schedule
  pub stands : StandsFor pair setup (course_of setup schedule)

-- a fact of a setup and a schedule holds of all those after which the pair may be
abbrev pub After : Pair → (PairSetup → List PairEvent → Type 0) → Type 0
After pair Fact = (setup : PairSetup) (schedule : List PairEvent) → PairAt pair setup schedule → Fact setup schedule

-- a fact of a setup and a course holds of all those for which the pair stands
abbrev pub ForCourse : Pair → (PairSetup → Course → Type 0) → Type 0
ForCourse pair Fact = (setup : PairSetup) (course : Course) → StandsFor pair setup course → Fact setup course

-- and of the gateway at a place
abbrev pub ForMember : Pair → ℕ → (PairSetup → Course → Member → Type 0) → Type 0
ForMember pair place Fact =
    (setup : PairSetup) (course : Course) (member : Member) → StandsFor pair setup course → get_or course.members place member ≡ member
    → Fact setup course member

-- the course in which an event has come to the gateway at this place
abbrev pub with_member_at : Course → GatewayEvent → ℕ → Member → Course
with_member_at course event place member = record course {
  members = set course.members place (with_gateway_event event member);
  up = course.up ++ upwards_on event member;
}

-- how many datagrams were sent to the relay, and by it
abbrev pub sent_up : Pair → ℕ
sent_up pair = length pair.up

abbrev pub sent_down : Pair → ℕ
sent_down pair = length pair.down

-- the course in which a moment has come to the relay and to so many gateways, and not to the rest
abbrev pub moment_reached : PairSetup → Course → ℕ → ℕ → Course
moment_reached setup course at count = record (with_relay_event setup None (Moment at) course) {
  members = map (with_gateway_event (Passes at)) (take count course.members) ++ drop count course.members;
  up = course.up ++ flat_map (upwards_on (Passes at)) (take count course.members);
}

-- out of memory stopped a moment on its way: the relay and so many gateways took their steps, whose parts these
-- are, and the gateways after them took none
pub record IsStarved (setup : PairSetup) (course : Course) (at : ℕ) (pair : Pair) (parts : List Part) : Type 0 where
  pub count : ℕ
  pub some : count < length course.members
  pub parts_are : parts ≡ Relay (relay_step setup course (Moment at)) ∷ gateway_parts (Passes at) (take count course.members)
  pub stands : StandsFor pair setup (moment_reached setup course at count)

-- the event is a moment that was stopped on its way
abbrev pub HasStarved : PairSetup → Course → PairEvent → Pair → List Part → Type 0
HasStarved setup course event pair parts = (at : ℕ) × (event ≡ MomentForAll at) × IsStarved setup course at pair parts
