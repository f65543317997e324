-- What is written of the steps of a pair.
use Rattle.std.specs.{Prelude.{ℕ, ◌+◌, List, [], ◌∷◌, ◌++◌, length, codes, decimal, Option, Some, None}, List.{filter_map}}
use Rattle.amt_values.specs.{Endpoint.{peer_of}, Text.{peer_text}, declared.peer.Peer.{Peer}}
use Rattle.amt_script.specs.Texts.{outcome_text as relay_outcome_text, rows_text}
use Rattle.gateway_machine.specs.declared.step.PeerSend.{PeerSend}
use Rattle.gateway_script.specs.Texts.{delivery_text, outcome_text as gateway_outcome_text}
use Rattle.relay_machine.specs.{Answers.{rows_after}, declared.sends.OneSend.{OneSend}}
use Rattle.script_lines.specs.{Running.{script_text}, Texts.{hex_text}}
use Rattle.amt_pair.specs.{Parts.{parts_of}, Schedule.{Course, course_of}, Setup.{PairSetup}, declared.{event.PairEvent.{PairEvent}, step.Part.{Part, TheVariants.{Absent, Gateway, Relay}}}}
use Rattle.pair_script.specs.{Setup.{setup_of}, declared.script.{PairItem.{PairItem}, PairScript.{PairScript}}}
use Rattle.pair_script.specs.declared.script.PairItem.TheVariants as items

-- `= N WHO OUTCOME`
abbrev pub part_line : ℕ → List ℕ → List ℕ → List ℕ
part_line number who outcome = codes "= " ++ (decimal number ++ (codes " " ++ (who ++ (codes " " ++ (outcome ++ 10 ∷ [])))))

-- `> DIRECTION K PEER HEX`
abbrev pub datagram_line : List ℕ → ℕ → Peer → List ℕ → List ℕ
datagram_line direction number peer bytes =
    codes "> " ++ (direction ++ (codes " " ++ (decimal number ++ (codes " " ++ (peer_text peer ++ (codes " " ++ (hex_text bytes ++ 10 ∷ [])))))))

-- sends by their lines, of which the first has the number after this one
abbrev pub sends_text : {X : Type 0} → (ℕ → X → List ℕ) → ℕ → List X → List ℕ
sends_text line sent [] = []
sends_text line sent (send ∷ rest) = line (sent + 1) send ++ sends_text line (sent + 1) rest

-- the line of a datagram of the relay, and of one of a gateway
abbrev pub down_line : ℕ → OneSend → List ℕ
down_line number send = datagram_line (codes "down") number (peer_of send.to) send.bytes

abbrev pub up_line : ℕ → PeerSend → List ℕ
up_line number send = datagram_line (codes "up") number send.to send.bytes

-- a part, where so many datagrams were sent to the relay and by it before
abbrev pub part_text : ℕ → ℕ → ℕ → Part → List ℕ
part_text number up down (Relay step) = part_line number (codes "relay") (relay_outcome_text step.outcome) ++ sends_text down_line down step.sends
part_text number up down (Gateway name step) =
    part_line number name (gateway_outcome_text step.outcome) ++ (sends_text up_line up step.sends ++ delivery_text step.deliver)
part_text number up down (Absent datagram) = part_line number (codes "absent") (decimal datagram)

-- how many datagrams are sent to the relay in a part
abbrev pub ups_in : Part → ℕ
ups_in (Relay step) = 0
ups_in (Gateway name step) = length step.sends
ups_in (Absent datagram) = 0

-- and how many the relay sends
abbrev pub downs_in : Part → ℕ
downs_in (Relay step) = length step.sends
downs_in (Gateway name step) = 0
downs_in (Absent datagram) = 0

-- parts, one after another
abbrev pub parts_text : ℕ → ℕ → ℕ → List Part → List ℕ
parts_text number up down [] = []
parts_text number up down (part ∷ rest) = part_text number up down part ++ parts_text number (up + ups_in part) (down + downs_in part) rest

-- the text of an event after this course
unfoldable pub event_text : PairSetup → Course → ℕ → PairEvent → List ℕ
event_text setup course number event = parts_text number (length course.up) (length course.down) (parts_of setup course event)

-- the events among items, in order
abbrev pub event_in : PairItem → Option PairEvent
event_in (items.Event event) = Some event
event_in items.Show = None

abbrev pub events_in : List PairItem → List PairEvent
events_in all = filter_map event_in all

-- the text of an item after this course
abbrev pub item_text_in : PairSetup → Course → ℕ → PairItem → List ℕ
item_text_in setup course number (items.Event event) = event_text setup course number event
item_text_in setup course number items.Show = rows_text number (rows_after setup.settings setup.secret course.relay)

-- the text of an item of this number, after those before it
abbrev pub item_text : PairSetup → List PairItem → ℕ → PairItem → List ℕ
item_text setup before number item = item_text_in setup (course_of setup (events_in before)) number item

-- the text of a script
abbrev pub pair_script_text : PairScript → List ℕ
pair_script_text script = script_text (item_text (setup_of script)) script.items
