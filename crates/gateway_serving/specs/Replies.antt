-- The texts by which a running gateway answers lines, by where it stands.
use Rattle.std.specs.Prelude.{ℕ, ◌^◌, max, nat_lt, List, [], ◌∷◌, ◌++◌, codes, decimal, flat_map, Option, None, Some, Result, Ok, Err, if◌then◌else◌}
use Rattle.amt_values.specs.{declared.{address.Ip.{Ip}, peer.Peer.{Peer}}, Text.{ip_text, peer_text}}
use Rattle.control_lines.specs.{Answer.{bad_text}, Tally.{number_line, numbers_of, tally_text}, declared.asking_gateway.GatewayAsking.{GatewayAsking, TheVariants.{Counts, Show, Stop, StopLeave}}}
use Rattle.gateway_machine.specs.{Answers.{is_idle}, Runs.{Run, run_of}, declared.{event.GatewayEvent.{GatewayEvent}, exchange.{Exchange.{Exchange}, GatewayState.{GatewayState, TheVariants.{Idle, Discovering, Requesting, Active}}}, settings.GatewaySettings.{GatewaySettings}}}
use Rattle.script_lines.specs.{Texts.{mode_text}, declared.reason.Reason.{Reason}}
use Rattle.socket_merge.specs.{History.{open_sockets}, declared.stored.Socket.{Socket}}
use Rattle.gateway_serving.specs.{OutcomeWords.{outcome_words, words_said}, declared.numbers.Numbers.{Numbers}}

-- Where a run stands after some whole turns: its events so far, how many turns there were, and what is counted.
pub record Standing : Type 0 where
  pub events : List GatewayEvent
  pub turns : ℕ
  pub datagrams : ℕ
  pub controls : ℕ
  pub bad_controls : ℕ
  pub delivered : ℕ
  pub unsent : ℕ
  pub starved : ℕ

-- the numbers that are reported
abbrev pub numbers_at : Standing → Numbers
numbers_at standing = record {
  turns = standing.turns;
  datagrams = standing.datagrams;
  controls = standing.controls;
  bad_controls = standing.bad_controls;
  delivered = standing.delivered;
  unsent = standing.unsent;
  starved = standing.starved;
}

-- what came in: `turns N`, `datagrams N`, `controls N` and `bad_controls N`
unfoldable pub taken_text : Numbers → List ℕ
taken_text numbers =
    number_line (codes "turns") numbers.turns
    ++ (number_line (codes "datagrams") numbers.datagrams
    ++ (number_line (codes "controls") numbers.controls
    ++ number_line (codes "bad_controls") numbers.bad_controls))

-- what went out, and what memory refused: `delivered N`, `unsent N` and `starved N`
unfoldable pub sent_text : Numbers → List ℕ
sent_text numbers =
    number_line (codes "delivered") numbers.delivered
    ++ (number_line (codes "unsent") numbers.unsent
    ++ number_line (codes "starved") numbers.starved)

abbrev pub numbers_text : Numbers → List ℕ
numbers_text numbers = taken_text numbers ++ sent_text numbers

abbrev pub state_word : GatewayState → List ℕ
state_word Idle = codes "idle"
state_word Discovering = codes "discovering"
state_word Requesting = codes "requesting"
state_word Active = codes "active"

-- `state WORD`
abbrev pub state_text : GatewayState → List ℕ
state_text state = codes "state " ++ (state_word state ++ (10 ∷ []))

-- `relay PEER`, or `relay none` where none is known
abbrev pub relay_text : Option Peer → List ℕ
relay_text None = codes "relay none" ++ 10 ∷ []
relay_text (Some peer) = codes "relay " ++ (peer_text peer ++ (10 ∷ []))

-- the number as a moment, if there is such a one
abbrev pub moment_of : ℕ → Option ℕ
moment_of ms = if nat_lt ms (2 ^ 62) then Some ms else None

-- the earliest moment at which something is due, and none before the exchange's own
abbrev pub due_of : Exchange → Option ℕ
due_of exchange = if is_idle exchange.state then None else moment_of (max exchange.due_ms exchange.moment)

-- `due MS`, or `due none`
abbrev pub due_text : Option ℕ → List ℕ
due_text None = codes "due none" ++ 10 ∷ []
due_text (Some moment) = codes "due " ++ (decimal moment ++ (10 ∷ []))

-- each source after a space
abbrev pub sources_text : List Ip → List ℕ
sources_text sources = flat_map (λ source. codes " " ++ ip_text source) sources

-- `* NAME GROUP MODE SOURCES`, by the fields of the line that opens such a socket
unfoldable pub socket_text : Socket → List ℕ
socket_text socket =
    codes "* "
    ++ (socket.name
    ++ (codes " "
    ++ (ip_text socket.group ++ (codes " " ++ (mode_text socket.filter.mode ++ (sources_text socket.filter.sources ++ (10 ∷ [])))))))

-- the state, the relay, what is due, and the open sockets, in the order in which they were opened
unfoldable pub run_text : Run → List ℕ
run_text run =
    state_text run.exchange.state
    ++ (relay_text run.exchange.relay ++ (due_text (due_of run.exchange) ++ flat_map socket_text (open_sockets run.history)))

-- by the settings and the first nonce of a run
module _ (settings : GatewaySettings) (first : ℕ) where
  -- `= WORD N` of each word that some outcome had
  abbrev pub words_text : List GatewayEvent → List ℕ
  words_text events = tally_text outcome_words (numbers_of outcome_words (words_said settings first events))

  abbrev pub counts_text : Standing → List ℕ
  counts_text standing = numbers_text (numbers_at standing) ++ words_text standing.events

  abbrev pub show_text : List GatewayEvent → List ℕ
  show_text events = run_text (run_of settings first events)

  -- what answers a line that was read so
  abbrev pub reply_text : Standing → Result GatewayAsking Reason → List ℕ
  reply_text standing (Ok Counts) = counts_text standing
  reply_text standing (Ok Show) = show_text standing.events
  reply_text standing (Ok Stop) = []
  reply_text standing (Ok StopLeave) = []
  reply_text standing (Err reason) = bad_text reason
