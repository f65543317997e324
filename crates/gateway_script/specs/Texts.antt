-- What is written of a gateway's steps.
use Rattle.std.specs.Prelude.{ℕ, List, [], ◌∷◌, ◌++◌, codes, decimal, flat_map, map, Option, Some, None}
use Rattle.amt_values.specs.Text.{ip_text, peer_text}
use Rattle.script_lines.specs.{FaultTexts.{head_text, inner_text, refusal_text, report_text}, Running.{script_text}, Texts.{hex_text, nonce_text, send_line}}
use Rattle.gateway_machine.specs.declared.{event.GatewayEvent.{GatewayEvent}, outcome.{GatewayOutcome.{GatewayOutcome, TheVariants.{Quiet, Drawn, Discovering, Requesting, Active, Idle, Changed, Kept, Delivered, SocketRefused, Ignored as IgnoredAs}}, Ignored.{Ignored}}}
use Rattle.gateway_machine.specs.{declared.{outcome.{Ignored.TheVariants.{Undecoded, Kind, State, Sender, Nonce, Inner, Family, Body, NotGeneral, Head, Scope, NotWanted}, SocketRefusal.{SocketRefusal, TheVariants.{Taken, NoSocket, SourcesFull, ReportFull}}}, settings.GatewaySettings.{GatewaySettings}, step.PeerSend.{PeerSend}}, Answers.{Answer}, Runs.{answer_after}, Sends.{datagram_of}}
use Rattle.gateway_script.specs.declared.script.GatewayScript.{GatewayScript}

-- why a socket call was refused
abbrev pub socket_refusal_text : SocketRefusal → List ℕ
socket_refusal_text Taken = codes "taken"
socket_refusal_text NoSocket = codes "nosocket"
socket_refusal_text (SourcesFull sources) = codes "sources " ++ decimal sources
socket_refusal_text (ReportFull octets) = codes "report " ++ decimal octets

-- why a datagram was ignored; of two values the one that is wanted comes first
abbrev pub ignored_text : Ignored → List ℕ
ignored_text (Undecoded refusal) = codes "refused " ++ refusal_text refusal
ignored_text (Kind kind) = codes "kind " ++ decimal kind
ignored_text (State kind) = codes "state " ++ decimal kind
ignored_text (Sender relay from) = codes "sender " ++ (peer_text relay ++ (codes " " ++ peer_text from))
ignored_text (Nonce want have) = codes "nonce " ++ (nonce_text want ++ (codes " " ++ nonce_text have))
ignored_text (Inner fault) = codes "inner " ++ inner_text fault
ignored_text Family = codes "family"
ignored_text (Body fault) = codes "body " ++ report_text fault
ignored_text (NotGeneral group) = codes "notgeneral " ++ ip_text group
ignored_text (Head fault) = codes "head " ++ head_text fault
ignored_text (Scope group) = codes "scope " ++ ip_text group
ignored_text (NotWanted group source) = codes "notwanted " ++ (ip_text group ++ (codes " " ++ ip_text source))

-- what an event came to
abbrev pub outcome_text : GatewayOutcome → List ℕ
outcome_text Quiet = codes "quiet"
outcome_text Drawn = codes "drawn"
outcome_text (Discovering tries) = codes "discovering " ++ decimal tries
outcome_text (Requesting tries) = codes "requesting " ++ decimal tries
outcome_text Active = codes "active"
outcome_text Idle = codes "idle"
outcome_text Changed = codes "changed"
outcome_text Kept = codes "kept"
outcome_text Delivered = codes "delivered"
outcome_text (SocketRefused refusal) = codes "refused " ++ socket_refusal_text refusal
outcome_text (IgnoredAs cause) = codes "ignored " ++ ignored_text cause

-- `= N OUTCOME`
abbrev pub answer_line : ℕ → GatewayOutcome → List ℕ
answer_line number outcome = codes "= " ++ (decimal number ++ (codes " " ++ (outcome_text outcome ++ (10 ∷ []))))

-- `> PEER HEX`
abbrev pub send_text : PeerSend → List ℕ
send_text send = send_line send.to send.bytes

-- `^ HEX`, where a packet was handed on
abbrev pub delivery_text : Option (List ℕ) → List ℕ
delivery_text None = []
delivery_text (Some packet) = codes "^ " ++ (hex_text packet ++ (10 ∷ []))

-- `= N OUTCOME`, a line for each send, and one for the packet that was handed on
unfoldable pub step_text : ℕ → GatewayOutcome → List PeerSend → Option (List ℕ) → List ℕ
step_text number outcome sends deliver =
    answer_line number outcome ++ (flat_map send_text sends ++ delivery_text deliver)

-- the text of an answer
abbrev pub answer_text : ℕ → Answer → List ℕ
answer_text number answer = step_text number answer.outcome (map datagram_of answer.sends) answer.deliver

-- what a gateway's run begins with
pub record GatewayStart : Type 0 where
  pub settings : GatewaySettings
  pub nonce : ℕ

-- the text of an event after those before it
abbrev pub text_after : GatewayStart → List GatewayEvent → ℕ → GatewayEvent → List ℕ
text_after start before number event = answer_text number (answer_after start.settings start.nonce before event)

-- the text of a gateway script
abbrev pub gateway_script_text : GatewayScript → List ℕ
gateway_script_text script =
    script_text (text_after (record { settings = script.settings; nonce = script.nonce })) script.items
