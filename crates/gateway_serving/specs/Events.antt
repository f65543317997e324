-- The events that the answers of devices make, in the order of a turn: a nonce, its moment, each datagram, each
-- socket call; and at the end of a run that all sockets leave their groups.
use Rattle.std.specs.{Prelude.{ℕ, ◌%◌, ◌^◌, max, List, [], ◌∷◌, ◌++◌, map, Option, None, Some}, List.{filter_map}}
use Rattle.amt_ports.specs.{declared.link.LinkAnswer.{LinkAnswer, TheVariants.{Datagram as DatagramCame, Nothing as NothingCame, Closed as LinkClosed}}, Answers.{Taken, unless_starved}}
use Rattle.gateway_machine.specs.declared.event.GatewayEvent.{GatewayEvent, TheVariants.{Datagram, LeaveAll, Moment, Nonce}}
use Rattle.gateway_serving.specs.{Leaving.{Leaving, Stayed, AllLeft, LeaveRefused}, Runs.{Run, turns_of}, Turns.{Asks, Bad, Called, Line, Starved, ControlAnswer, Turn, moment_of_turn}}

-- a nonce is the low 32 bits of a word
abbrev pub nonce_of : ℕ → ℕ
nonce_of word = word % 2 ^ 32

-- the moments, each no earlier than those before it; memory may have refused one
abbrev pub moments_in : ℕ → List (Taken ℕ) → List GatewayEvent
moments_in latest clock = filter_map (λ one. unless_starved one.starved (Some (Moment (max latest one.answer)))) clock

abbrev pub datagram_of : LinkAnswer → Option GatewayEvent
datagram_of (DatagramCame from bytes) = Some (Datagram from bytes)
datagram_of NothingCame = None
datagram_of LinkClosed = None

abbrev pub datagrams_in : List (Taken LinkAnswer) → List GatewayEvent
datagrams_in heard = filter_map (λ one. unless_starved one.starved (datagram_of one.answer)) heard

abbrev pub call_of : Option Line → Option GatewayEvent
call_of None = None
call_of (Some (Called event)) = Some event
call_of (Some (Asks asking)) = None
call_of (Some (Bad reason)) = None
call_of (Some Starved) = None

abbrev pub calls_in : List ControlAnswer → List GatewayEvent
calls_in lines = filter_map (λ one. call_of one.line) lines

abbrev pub nonces_in : List ℕ → List GatewayEvent
nonces_in words = map (λ word. Nonce (nonce_of word)) words

abbrev pub events_of_turn : ℕ → Turn → List GatewayEvent
events_of_turn latest turn =
    nonces_in turn.drawn ++ (moments_in latest turn.clock ++ (datagrams_in turn.heard ++ calls_in turn.lines))

-- the events of turns, if this moment was the latest before them
abbrev pub events_from : ℕ → List Turn → List GatewayEvent
events_from latest [] = []
events_from latest (turn ∷ later) = events_of_turn latest turn ++ events_from (moment_of_turn latest turn) later

-- the first moment of a run, and 0 where there is none
abbrev pub first_moment : List ℕ → ℕ
first_moment [] = 0
first_moment (moment ∷ later) = moment

-- the last event of a run, where all sockets left their groups
abbrev pub leave_events : Leaving → List GatewayEvent
leave_events Stayed = []
leave_events AllLeft = LeaveAll ∷ []
leave_events LeaveRefused = []

abbrev pub events_of : Run → List GatewayEvent
events_of run = run.begun ++ (events_from (first_moment run.moments) (turns_of run) ++ leave_events run.left)

-- the first nonce of a run, and 0 where there is none
abbrev pub nonce_by : List ℕ → ℕ
nonce_by [] = 0
nonce_by (word ∷ later) = nonce_of word

abbrev pub first_of : Run → ℕ
first_of run = nonce_by run.words
