-- What happens by the answers of devices, in the order of a turn: its moment, a new secret, each datagram, the
-- publishing, each packet.
use Rattle.std.specs.{Prelude.{ℕ, Bool, true, false, List, [], ◌∷◌, ◌++◌, map, Option, None, Some}, List.{filter_map, flat_map}}
use Rattle.byteorder.specs.Endian.{big_bytes}
use Rattle.amt_ports.specs.{declared.{feed.FeedAnswer.{FeedAnswer, TheVariants.{Packet as PacketFed, Nothing as NothingFed, Closed as FeedClosed}}, link.LinkAnswer.{LinkAnswer, TheVariants.{Datagram as DatagramCame, Nothing as NothingCame, Closed as LinkClosed}}}, Answers.{Taken, unless_starved}}
use Rattle.response_mac.specs.declared.secret.Secret.{Secret}
use Rattle.relay_machine.specs.declared.event.Event.{Event, TheVariants.{Moment, Datagram, Packet, Rotate}}
use Rattle.relay_serving.specs.{Turns.{Publishing, Ahead, Refused, Done, Turn, moment_of_turn}, Happenings.{Happening, Took, Published, events_among, published_events_among}, Runs.{Run, turns_of}}

-- a secret is the octets of four words, each from the most significant one on (RFC 7450, section 5.3.6)
abbrev pub secret_by : List ℕ → Secret
secret_by words = record { 0 = flat_map (big_bytes 8) words }

abbrev pub datagram_of : LinkAnswer → Option Event
datagram_of (DatagramCame from bytes) = Some (Datagram bytes from)
datagram_of NothingCame = None
datagram_of LinkClosed = None

abbrev pub packet_of : FeedAnswer → Option Event
packet_of (PacketFed bytes) = Some (Packet bytes)
packet_of NothingFed = None
packet_of FeedClosed = None

abbrev pub datagrams_in : List (Taken LinkAnswer) → List Event
datagrams_in heard = filter_map (λ one. unless_starved one.starved (datagram_of one.answer)) heard

abbrev pub packets_in : List (Taken FeedAnswer) → List Event
packets_in fed = filter_map (λ one. unless_starved one.starved (packet_of one.answer)) fed

-- the moment, unless memory refused it
abbrev pub moment_event : Bool → ℕ → List Event
moment_event true moment = []
moment_event false moment = Moment moment ∷ []

-- all four words of a new secret, or fewer, which are none
abbrev pub rotation : List ℕ → List Event
rotation (one ∷ two ∷ three ∷ four ∷ []) = Rotate (secret_by (one ∷ two ∷ three ∷ four ∷ [])) ∷ []
rotation other = []

-- a turn's moment, and its new secret
abbrev pub beginning_of : ℕ → Turn → List Event
beginning_of latest turn = moment_event turn.clock.starved (moment_of_turn latest turn) ++ rotation turn.drawn

-- one that memory refused leaves all as it was
abbrev pub publishing_in : Publishing → List Happening
publishing_in Ahead = []
publishing_in Refused = []
publishing_in Done = Published ∷ []

abbrev pub happenings_of_turn : ℕ → Turn → List Happening
happenings_of_turn latest turn =
    map Took (beginning_of latest turn)
    ++ (map Took (datagrams_in turn.heard) ++ (publishing_in turn.publishing ++ map Took (packets_in turn.fed)))

-- what happens in turns, if this moment was the latest before them
abbrev pub happenings_from : ℕ → List Turn → List Happening
happenings_from latest [] = []
happenings_from latest (turn ∷ later) = happenings_of_turn latest turn ++ happenings_from (moment_of_turn latest turn) later

abbrev pub happenings_of : Run → List Happening
happenings_of run = happenings_from 0 (turns_of run)

abbrev pub events_of : Run → List Event
events_of run = events_among (happenings_of run)

-- those before the last publishing that was done
abbrev pub published_events : Run → List Event
published_events run = published_events_among (happenings_of run)

-- the first secret of a run
abbrev pub first_of : Run → Secret
first_of run = secret_by run.first
