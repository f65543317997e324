-- The words by which a gateway's outcomes are counted: of each, the first that a replay prints of it, and of a refused
-- call or an ignored datagram also the first of its cause.
use Rattle.std.specs.Prelude.{◌≡◌, ℕ, List, [], ◌∷◌, codes, map}
use Rattle.control_lines.specs.Tally.{numbers_of}
use Rattle.relay_machine.specs.Courses.{each_after}
use Rattle.gateway_machine.specs.{Runs.{answer_after}, declared.{event.GatewayEvent.{GatewayEvent}, settings.GatewaySettings.{GatewaySettings}}}
use Rattle.gateway_machine.specs.declared.outcome.GatewayOutcome.{GatewayOutcome, TheVariants.{Quiet, Drawn, Discovering, Requesting, Active, Idle, Changed, Kept, Delivered, SocketRefused, Ignored as IgnoredAs}}
use Rattle.gateway_machine.specs.declared.outcome.{Ignored.{Ignored, TheVariants.{Undecoded, Kind, State, Sender, Nonce, Inner, Family, Body, NotGeneral, Head, Scope, NotWanted}}, SocketRefusal.{SocketRefusal, TheVariants.{Taken, NoSocket, SourcesFull, ReportFull}}}
use Rattle.gateway_serving.specs.declared.outcomes.Outcomes.{Outcomes}

-- in the order in which they are reported
abbrev pub outcome_words : List (List ℕ)
outcome_words = codes "quiet" ∷ codes "drawn" ∷ codes "discovering" ∷ codes "requesting" ∷ codes "active" ∷ codes "idle" ∷ codes "changed" ∷ codes "kept" ∷ codes "delivered"
    ∷ codes "refused taken" ∷ codes "refused nosocket" ∷ codes "refused sources" ∷ codes "refused report"
    ∷ codes "ignored refused" ∷ codes "ignored kind" ∷ codes "ignored state" ∷ codes "ignored sender" ∷ codes "ignored nonce" ∷ codes "ignored inner"
    ∷ codes "ignored family" ∷ codes "ignored body" ∷ codes "ignored notgeneral" ∷ codes "ignored head" ∷ codes "ignored scope" ∷ codes "ignored notwanted" ∷ []

-- the word of a refused call
abbrev pub refusal_word : SocketRefusal → List ℕ
refusal_word Taken = codes "refused taken"
refusal_word NoSocket = codes "refused nosocket"
refusal_word (SourcesFull sources) = codes "refused sources"
refusal_word (ReportFull octets) = codes "refused report"

-- the word of an ignored datagram
abbrev pub cause_word : Ignored → List ℕ
cause_word (Undecoded refusal) = codes "ignored refused"
cause_word (Kind kind) = codes "ignored kind"
cause_word (State kind) = codes "ignored state"
cause_word (Sender relay from) = codes "ignored sender"
cause_word (Nonce want have) = codes "ignored nonce"
cause_word (Inner fault) = codes "ignored inner"
cause_word Family = codes "ignored family"
cause_word (Body fault) = codes "ignored body"
cause_word (NotGeneral group) = codes "ignored notgeneral"
cause_word (Head fault) = codes "ignored head"
cause_word (Scope group) = codes "ignored scope"
cause_word (NotWanted group source) = codes "ignored notwanted"

-- the word of an outcome, whatever more is known of it
abbrev pub word_of : GatewayOutcome → List ℕ
word_of Quiet = codes "quiet"
word_of Drawn = codes "drawn"
word_of (Discovering tries) = codes "discovering"
word_of (Requesting tries) = codes "requesting"
word_of Active = codes "active"
word_of Idle = codes "idle"
word_of Changed = codes "changed"
word_of Kept = codes "kept"
word_of Delivered = codes "delivered"
word_of (SocketRefused refusal) = refusal_word refusal
word_of (IgnoredAs cause) = cause_word cause

-- what an event comes to after these events
abbrev pub outcome_after : GatewaySettings → ℕ → List GatewayEvent → GatewayEvent → GatewayOutcome
outcome_after settings first earlier event = (answer_after settings first earlier event).outcome

-- what each event of a run comes to
abbrev pub outcomes_of : GatewaySettings → ℕ → List GatewayEvent → List GatewayOutcome
outcomes_of settings first events = each_after (outcome_after settings first) [] events

-- the words of what these events came to
abbrev pub words_said : GatewaySettings → ℕ → List GatewayEvent → List (List ℕ)
words_said settings first events = map word_of (outcomes_of settings first events)

-- the words of what these events came to are counted, each in its place
abbrev pub IsTallied : GatewaySettings → ℕ → List GatewayEvent → Outcomes → Type 0
IsTallied settings first events outcomes = outcomes.tally ≡ numbers_of outcome_words (words_said settings first events)
