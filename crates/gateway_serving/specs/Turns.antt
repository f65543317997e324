-- What the devices of a serving gateway answer, turn by turn.
use Rattle.std.specs.Prelude.{◌≡◌, ℕ, ◌≤◌, max, List, [], ◌∷◌, length, map, Option, None, Some}
use Rattle.amt_ports.specs.{declared.link.LinkAnswer.{LinkAnswer, TheVariants.{Datagram, Nothing as NothingCame, Closed as LinkClosed}}, Answers.{IsDatagram, Taken, taken}, Bursts.{AnswerKinds, IsBurst}}
use Rattle.amt_values.specs.{Conditions.{First}, declared.peer.Peer.{Peer}}
use Rattle.control_lines.specs.{Asking.{line_of}, AskingGateways.{AsksGateway, FailsAtGateway, IsForAsking, gateway_reasons}, declared.asking_gateway.GatewayAsking.{GatewayAsking}}
use Rattle.gateway_machine.specs.declared.event.GatewayEvent.{GatewayEvent}
use Rattle.gateway_script.specs.SocketLine.{FailsFirstAsCall, IsSocketLine, control_line}
use Rattle.group_records.specs.declared.family.Family.{Family}
use Rattle.script_lines.specs.declared.reason.Reason.{Reason}

-- What becomes of a line of the control: it makes this socket call, which is an event; it asks for this; it is bad for
-- this reason; or memory refused to read it, or refused its event.
pub data Line : Type 0 where
  Called : GatewayEvent → Line
  Asks : GatewayAsking → Line
  Bad : Reason → Line
  Starved : Line

-- an answer of the control, and what became of its line, if it is one
pub record ControlAnswer : Type 0 where
  pub answer : LinkAnswer
  pub line : Option Line

abbrev pub no_line : LinkAnswer → ControlAnswer
no_line answer = record { answer = answer; line = None }

abbrev pub a_line : Peer → List ℕ → Line → ControlAnswer
a_line from bytes line = record { answer = Datagram from bytes; line = Some line }

-- The octets make no socket call and ask for nothing. The reason is the first that holds of a line that asks, where they
-- begin as one, or else of one that makes a call.
pub record IsBad (family : Family) (bytes : List ℕ) (reason : Reason) : Type 0 where
  pub no_call : (event : GatewayEvent) → IsSocketLine family event bytes → ⊥
  pub no_asking : (asking : GatewayAsking) → AsksGateway asking bytes → ⊥
  pub of_asking : IsForAsking bytes → First (FailsAtGateway (line_of bytes)) gateway_reasons reason
  pub of_call : ¬ IsForAsking bytes → FailsFirstAsCall family (control_line bytes) reason

-- this may become of the octets; a line that begins as one that asks is read without memory
abbrev pub MayBecome : Family → List ℕ → Line → Type 0
MayBecome family bytes (Called event) = IsSocketLine family event bytes
MayBecome family bytes (Asks asking) = AsksGateway asking bytes
MayBecome family bytes (Bad reason) = IsBad family bytes reason
MayBecome family bytes Starved = ¬ IsForAsking bytes

abbrev pub HasLine : Family → LinkAnswer → Option Line → Type 0
HasLine family (Datagram from bytes) (Some line) = (length bytes ≤ 65535) × MayBecome family bytes line
HasLine family (Datagram from bytes) None = ⊥
HasLine family NothingCame line = ⊥
HasLine family LinkClosed line = ⊥

-- The answers of the link, and those of the control. The run goes on where something came, whether memory took it or
-- not: none ends out of memory.
abbrev pub from_link : AnswerKinds (Taken LinkAnswer)
from_link = record {
  Came = λ one. IsDatagram one.answer;
  nothing = taken NothingCame;
  closed = taken LinkClosed;
}

abbrev pub from_control : Family → AnswerKinds ControlAnswer
from_control family = record {
  Came = λ one. HasLine family one.answer one.line;
  nothing = no_line NothingCame;
  closed = no_line LinkClosed;
}

-- the answers of one turn, in order: the words', the clock's, the link's, the control's
pub record Turn : Type 0 where
  pub drawn : List ℕ
  pub clock : List (Taken ℕ)
  pub heard : List (Taken LinkAnswer)
  pub lines : List ControlAnswer

-- the latest of these moments, if this was the latest before them
abbrev pub latest_of : ℕ → List ℕ → ℕ
latest_of latest [] = latest
latest_of latest (moment ∷ later) = latest_of (max latest moment) later

-- the turn's moment: the latest that the clock has given so far
abbrev pub moment_of_turn : ℕ → Turn → ℕ
moment_of_turn latest turn = latest_of latest (map (λ one. one.answer) turn.clock)

-- one word was drawn, and one moment was given
pub record HasBegun (turn : Turn) : Type 0 where
  pub word : length turn.drawn ≡ 1
  pub moment : length turn.clock ≡ 1

-- the link was asked
pub record HasHeard (turn : Turn) : Type 0 where
  pub begun : HasBegun turn
  pub link : IsBurst from_link turn.heard

-- the turn is whole
pub record IsWhole (family : Family) (turn : Turn) : Type 0 where
  pub heard : HasHeard turn
  pub control : IsBurst (from_control family) turn.lines
