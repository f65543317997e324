-- Those who send a running gateway a line that is answered, and how each is answered after the turn.
use Rattle.std.specs.{Prelude.{◌≡◌, ℕ, ◌+◌, Bool, true, false, List, [], ◌∷◌, ◌++◌, count_by, Option, None, Some, Result, Ok, Err, if◌then◌else◌}, List.{filter_map, list_any}}
use Rattle.amt_ports.specs.{Devices.{LinkSeen}, declared.link.LinkAnswer.{LinkAnswer, TheVariants.{Datagram, Nothing as NothingCame, Closed as LinkClosed}}}
use Rattle.amt_values.specs.declared.peer.Peer.{Peer}
use Rattle.control_lines.specs.{Answer.{HasAnswer, is_answer}, declared.asking_gateway.GatewayAsking.{GatewayAsking, TheVariants.{Counts, Show, Stop, StopLeave}}}
use Rattle.gateway_machine.specs.declared.settings.GatewaySettings.{GatewaySettings}
use Rattle.script_lines.specs.declared.reason.Reason.{Reason}
use Rattle.gateway_serving.specs.{Replies.{Standing, reply_text}, Turns.{Asks, Bad, Called, ControlAnswer, Line, Starved, Turn}, declared.askers.Asker.{Asker}}

-- Who is answered for a line that became this. A bad line that is itself an answer has none, so that two controls never
-- answer one another.
abbrev pub asker_for : Peer → List ℕ → Line → Option Asker
asker_for from bytes (Called event) = None
asker_for from bytes (Asks asking) = Some (record { from = from; reading = Ok asking })
asker_for from bytes (Bad reason) = if is_answer bytes then None else Some (record { from = from; reading = Err reason })
asker_for from bytes Starved = None

abbrev pub asker_in : LinkAnswer → Option Line → Option Asker
asker_in (Datagram from bytes) None = None
asker_in (Datagram from bytes) (Some line) = asker_for from bytes line
asker_in NothingCame line = None
asker_in LinkClosed line = None

-- in the order of the lines
abbrev pub askers_among : List ControlAnswer → List Asker
askers_among lines = filter_map (λ one. asker_in one.answer one.line) lines

abbrev pub askers_of : Turn → List Asker
askers_of turn = askers_among turn.lines

-- the line asks that the run ends
abbrev pub is_stop : Result GatewayAsking Reason → Bool
is_stop (Ok Counts) = false
is_stop (Ok Show) = false
is_stop (Ok Stop) = true
is_stop (Ok StopLeave) = true
is_stop (Err reason) = false

-- and that all sockets leave their groups before
abbrev pub is_leave : Result GatewayAsking Reason → Bool
is_leave (Ok Counts) = false
is_leave (Ok Show) = false
is_leave (Ok Stop) = false
is_leave (Ok StopLeave) = true
is_leave (Err reason) = false

-- somebody asks for that
abbrev pub ask_stop : List Asker → Bool
ask_stop askers = list_any (λ one. is_stop one.reading) askers

abbrev pub ask_leave : List Asker → Bool
ask_leave askers = list_any (λ one. is_leave one.reading) askers

-- one answer: to whom, and whether memory refused it
pub record Reply : Type 0 where
  pub asker : Asker
  pub starved : Bool

abbrev pub refused_among : List Reply → ℕ
refused_among replies = count_by (λ one. one.starved) replies

-- the same, with this number of refused answers more
abbrev pub refusing_more : ℕ → Standing → Standing
refusing_more number standing = record standing { starved = standing.starved + number }

module _ (settings : GatewaySettings) (first : ℕ) where
  -- exactly the answer was tried, to whoever asked alone; or nothing, where memory refused it
  abbrev pub IsAnswered : Standing → Reply → LinkSeen → LinkSeen → Type 0
  IsAnswered standing one before after = HasAnswer false one.starved one.asker.from (reply_text settings first standing one.asker.reading) before after

  -- one after the other, each by where the run stands then: a refused answer counts at once
  pub data AreAnswered (standing : Standing) (start : LinkSeen) : List Reply → LinkSeen → Type 0 where
    no_answer : AreAnswered standing start [] start
    answer_more : (replies : List Reply) (now : LinkSeen) → AreAnswered standing start replies now
        → (one : Reply) (after : LinkSeen) → IsAnswered (refusing_more (refused_among replies) standing) one now after
        → AreAnswered standing start (replies ++ one ∷ []) after
