-- A schedule of both ends: what happens to a relay and its gateways, of which each datagram is delivered
-- when the schedule says so, any number of times, in any order, or never.
use Rattle.std.specs.{Prelude.{◌≡◌, ℕ, ◌-◌, nat_lt, Bool, true, false, List, [], ◌∷◌, ◌++◌, length, map, Contains, Option, Some, None, is_some, if◌then◌else◌, ◌≤◌}, List.{filter, flat_map, fold, slice_get}, Ordering.{eq_by_cmp}}
use Rattle.amt_values.specs.{Endpoint.{endpoint_of}, EndpointValue.{EndpointValue}, Order.{endpoint_order}, declared.peer.Peer.{Peer}}
use Rattle.endpoint_membership.specs.declared.change.Change.{Change}
use Rattle.gateway_machine.specs.{Answers.{Answer, call_in}, Events.{IsEventOf}, Runs.{Run, answer_in, run_of}, Sends.{datagram_of}, declared.event.GatewayEvent.{GatewayEvent, TheVariants.{Datagram as Heard, Moment as Passes}}}
use Rattle.relay_machine.specs.{Accepted.{entry_of}, Answers.{sends_of}, declared.{event.Event.{Event, TheVariants.{Datagram, Moment, Packet, Rotate}}, sends.OneSend.{OneSend}}}
use Rattle.socket_merge.specs.History.{same_name}
use Rattle.amt_pair.specs.{Events.{IsEvent}, Sent.{Sent, sent_on}, Setup.{Host, PairSetup, first_nonce, relay_peer}, declared.event.PairEvent.{PairEvent, TheVariants.{Down, Moment as MomentForAll, Packet as PacketComes, Rotate as SecretComes, Socket, Up}}}

-- a gateway, the nonce of its first message, and the events that happened to it, in order
pub record Member : Type 0 where
  pub host : Host
  pub first : ℕ
  pub events : List GatewayEvent

-- a datagram that a gateway of this peer and this family sent to the relay
pub record Upward : Type 0 where
  pub from : Peer
  pub v6 : Bool
  pub sent : Sent

-- an entry of the relay's accepted log, and the datagram that made it, where one did
pub record Entry : Type 0 where
  pub by : Option Upward
  pub change : Change

-- where a schedule leads: the events of the relay and of each gateway, all datagrams that were sent to the
-- relay and by it, and the entries of the accepted log, each list in order
pub record Course : Type 0 where
  pub relay : List Event
  pub members : List Member
  pub up : List Upward
  pub down : List OneSend
  pub entries : List Entry

-- the run of a gateway
abbrev pub run_of_member : Member → Run
run_of_member member = run_of member.host.settings member.first member.events

-- what an event comes to at a gateway
abbrev pub answer_at : Member → GatewayEvent → Answer
answer_at member event = answer_in member.host.settings (run_of_member member) event

-- what a gateway sent, as a datagram of its own
abbrev pub upward_of : Host → Sent → Upward
upward_of host sent = record { from = host.peer; v6 = host.settings.v6; sent = sent }

-- the datagrams that a gateway sends on an event
abbrev pub upwards_on : GatewayEvent → Member → List Upward
upwards_on event member = map (upward_of member.host) (sent_on member.host.settings (run_of_member member) event)

-- the gateway with one more event
abbrev pub with_gateway_event : GatewayEvent → Member → Member
with_gateway_event event member = record { host = member.host; first = member.first; events = member.events ++ event ∷ [] }

-- the course in which an event happens to these gateways, and not to the rest
abbrev pub with_member_event : GatewayEvent → (Member → Bool) → Course → Course
with_member_event event reaches course = record {
  relay = course.relay;
  members = map (λ member. if reaches member then with_gateway_event event member else member) course.members;
  up = course.up ++ flat_map (upwards_on event) (filter reaches course.members);
  down = course.down;
  entries = course.entries;
}

-- the entries with one more, or with none
abbrev pub with_entry : List Entry → Option Upward → Option Change → List Entry
with_entry entries by None = entries
with_entry entries by (Some change) = entries ++ record { by = by; change = change } ∷ []

-- the course in which an event happens to the relay, by a datagram or not
abbrev pub with_relay_event : PairSetup → Option Upward → Event → Course → Course
with_relay_event setup by event course = record {
  relay = course.relay ++ event ∷ [];
  members = course.members;
  up = course.up;
  down = course.down ++ sends_of setup.settings setup.secret course.relay event;
  entries = with_entry course.entries by (entry_of setup.settings setup.secret course.relay event);
}

-- the gateway has the name
abbrev pub has_name : List ℕ → Member → Bool
has_name name member = same_name name member.host.name

-- the endpoint is this one
abbrev pub is_endpoint : EndpointValue → Option EndpointValue → Bool
is_endpoint endpoint None = false
is_endpoint endpoint (Some other) = eq_by_cmp endpoint_order endpoint other

-- datagrams for the endpoint go to the gateway
abbrev pub is_at : EndpointValue → Member → Bool
is_at endpoint member = is_endpoint endpoint (endpoint_of member.host.peer)

-- the item of this number, where the first has number 1
abbrev pub numbered : {X : Type 0} → List X → ℕ → Option X
numbered items number = if nat_lt 0 number then slice_get items (number - 1) else None

-- the event that a delivery is at the relay
abbrev pub delivery_up : Upward → Event
delivery_up upward = Datagram (datagram_of upward.sent.sending).bytes upward.from

-- the event that a delivery is at a gateway
abbrev pub delivery_down : PairSetup → OneSend → GatewayEvent
delivery_down setup send = Heard (relay_peer setup.settings) send.bytes

-- the course with one more event. A moment comes to the relay, and then to each gateway; a datagram that
-- wasn't sent, or is for no gateway, comes to nobody
abbrev pub up_delivered : PairSetup → Option Upward → Course → Course
up_delivered setup None course = course
up_delivered setup (Some upward) course = with_relay_event setup (Some upward) (delivery_up upward) course

abbrev pub down_delivered : PairSetup → Option OneSend → Course → Course
down_delivered setup None course = course
down_delivered setup (Some send) course = with_member_event (delivery_down setup send) (is_at send.to) course

abbrev pub with_pair_event : PairSetup → Course → PairEvent → Course
with_pair_event setup course (MomentForAll at) =
    with_member_event (Passes at) (λ member. true) (with_relay_event setup None (Moment at) course)
with_pair_event setup course (SecretComes secret) = with_relay_event setup None (Rotate secret) course
with_pair_event setup course (PacketComes bytes) = with_relay_event setup None (Packet bytes) course
with_pair_event setup course (Socket name event) = with_member_event event (has_name name) course
with_pair_event setup course (Up number) = up_delivered setup (numbered course.up number) course
with_pair_event setup course (Down number) = down_delivered setup (numbered course.down number) course

-- before any event
abbrev pub start : PairSetup → Course
start setup = record {
  relay = [];
  members = map (λ host. record { host = host; first = first_nonce; events = [] }) setup.hosts;
  up = [];
  down = [];
  entries = [];
}

-- where a schedule leads
unfoldable pub course_of : PairSetup → List PairEvent → Course
course_of setup schedule = fold (with_pair_event setup) (start setup) schedule

-- the event may come: a socket call of a gateway that was added, as its settings allow, and a packet of at
-- most 65,535 octets
abbrev pub MayCome : List Host → PairEvent → Type 0
MayCome hosts (PacketComes bytes) = length bytes ≤ 65535
MayCome hosts (Socket name event) =
    (is_some (call_in event) ≡ true) × (host : Host) × Contains hosts host × (host.name ≡ name) × IsEventOf host.settings event
MayCome hosts event = Unit {0}

-- the numbers in a socket call fit their fields, and the sources of its filter ascend, as in each value of the
-- type of events
abbrev pub FitsItsType : PairEvent → Type 0
FitsItsType (Socket name event) = IsEvent event
FitsItsType event = Unit {0}

-- an event of a schedule
pub record IsPairEvent (hosts : List Host) (event : PairEvent) : Type 0 where
  pub may_come : MayCome hosts event
  pub fits : FitsItsType event
