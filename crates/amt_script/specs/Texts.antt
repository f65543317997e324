-- What is written of a relay's events, of its steps and of what stands.
use Rattle.std.specs.{Prelude.{ℕ, true, false, List, [], ◌∷◌, ◌++◌, length, codes, decimal, flat_map, Option, Some, None}, List.{filter_map}}
use Rattle.amt_values.specs.{declared.address.Ip.{Ip}, Endpoint.{peer_of}, Text.{ip_text, peer_text}}
use Rattle.source_filter.specs.declared.record.{Record.{Record}, RecordKind.{RecordKind, TheVariants.{IsIn, IsEx, ToIn, ToEx, Allow, Block}}}
use Rattle.endpoint_membership.specs.declared.{limits.LimitFault.{LimitFault, TheVariants.{Sources, Groups, Endpoints}}, row.Row.{Row}}
use Rattle.response_mac.specs.declared.secret.Secret.{Secret}
use Rattle.relay_machine.specs.declared.{event.Event.{Event}, outcome.{NotForwarded.{NotForwarded, TheVariants.{Head, Scope}}, Outcome.{Outcome}}}
use Rattle.relay_machine.specs.{declared.{outcome.{Outcome.TheVariants.{Moved, Rotated, Resized, BadSource, Undecoded, WrongKind, Advertised, Queried, BadMac, Over, Updated, NoTunnel, TornDown, TooBig, Copied}, Unlawful.{Unlawful, TheVariants.{Inner, Report}}}, sends.OneSend.{OneSend}, settings.Settings.{Settings}}, Answers.{outcome_of, rows_after, sends_of}}
use Rattle.relay_machine.specs.declared.event.Event.TheVariants as events
use Rattle.relay_machine.specs.declared.outcome.Outcome.TheVariants as outcomes
use Rattle.script_lines.specs.{Texts.{hex_text, mode_text, send_line}, Running.{script_text}, FaultTexts.{head_text, inner_text, refusal_text, report_text}}
use Rattle.amt_script.specs.declared.script.{RelayItem.{RelayItem}, RelayScript.{RelayScript}}
use Rattle.amt_script.specs.declared.script.RelayItem.TheVariants as items

-- why an Update has no lawful report
abbrev pub unlawful_text : Unlawful → List ℕ
unlawful_text (Inner fault) = codes "inner " ++ inner_text fault
unlawful_text (Report fault) = codes "report " ++ report_text fault

-- which limit was passed, and the number that passes it
abbrev pub limit_text : LimitFault → List ℕ
limit_text (Sources group count) = codes "sources " ++ (ip_text group ++ (codes " " ++ decimal count))
limit_text (Groups count) = codes "groups " ++ decimal count
limit_text (Endpoints count) = codes "endpoints " ++ decimal count

-- why a packet is copied to nobody
abbrev pub not_forwarded_text : NotForwarded → List ℕ
not_forwarded_text (Head fault) = codes "head " ++ head_text fault
not_forwarded_text (Scope group) = codes "scope " ++ ip_text group

-- what an event came to
abbrev pub outcome_text : Outcome → List ℕ
outcome_text (Moved moment) = codes "moved " ++ decimal moment
outcome_text Rotated = codes "rotated"
outcome_text Resized = codes "resized"
outcome_text BadSource = codes "badsource"
outcome_text (Undecoded refusal) = codes "refused " ++ refusal_text refusal
outcome_text (WrongKind kind) = codes "wrongkind " ++ decimal kind
outcome_text Advertised = codes "advertised"
outcome_text (Queried false false) = codes "queried v4"
outcome_text (Queried false true) = codes "queried v4 limited"
outcome_text (Queried true false) = codes "queried v6"
outcome_text (Queried true true) = codes "queried v6 limited"
outcome_text BadMac = codes "badmac"
outcome_text (outcomes.Unlawful fault) = codes "unlawful " ++ unlawful_text fault
outcome_text (Over fault) = codes "limit " ++ limit_text fault
outcome_text Updated = codes "updated"
outcome_text NoTunnel = codes "notunnel"
outcome_text TornDown = codes "torndown"
outcome_text (TooBig size) = codes "toobig " ++ decimal size
outcome_text (outcomes.NotForwarded cause) = codes "notforwarded " ++ not_forwarded_text cause
outcome_text (Copied count) = codes "copied " ++ decimal count

-- `at MS`, `dg PEER HEX`, `mc HEX`, `secret HEX` or `limits E G S`
abbrev pub event_line : Event → List ℕ
event_line (events.Moment moment) = codes "at " ++ decimal moment
event_line (events.Datagram bytes from) = codes "dg " ++ (peer_text from ++ (codes " " ++ hex_text bytes))
event_line (events.Packet bytes) = codes "mc " ++ hex_text bytes
event_line (events.Rotate secret) = codes "secret " ++ hex_text secret.0
event_line (events.Limits limits) =
    codes "limits " ++ (decimal limits.endpoints ++ (codes " " ++ (decimal limits.groups ++ (codes " " ++ decimal limits.sources))))

-- its line, with a line feed
unfoldable pub event_text : Event → List ℕ
event_text event = event_line event ++ 10 ∷ []

-- `> PEER HEX`
abbrev pub send_text : OneSend → List ℕ
send_text send = send_line (peer_of send.to) send.bytes

-- `= N OUTCOME`
abbrev pub answer_line : ℕ → Outcome → List ℕ
answer_line number outcome = codes "= " ++ (decimal number ++ (codes " " ++ (outcome_text outcome ++ (10 ∷ []))))

-- `= N OUTCOME`, and a line for each send
unfoldable pub step_text : ℕ → Outcome → List OneSend → List ℕ
step_text number outcome sends = answer_line number outcome ++ flat_map send_text sends

-- the listed sources with commas between them, or `-` for none
abbrev pub sources_text : List Ip → List ℕ
sources_text [] = codes "-"
sources_text (first ∷ rest) = ip_text first ++ flat_map (λ source. codes "," ++ ip_text source) rest

-- what a group record is about (RFC 3376, section 4.2.12; RFC 3810, section 5.2.12)
abbrev pub kind_word : RecordKind → List ℕ
kind_word IsIn = codes "is_in"
kind_word IsEx = codes "is_ex"
kind_word ToIn = codes "to_in"
kind_word ToEx = codes "to_ex"
kind_word Allow = codes "allow"
kind_word Block = codes "block"

-- `KIND GROUP SOURCES`: a group record, with its sources in their order and with repeats
abbrev pub group_record_text : Record → List ℕ
group_record_text one = kind_word one.kind ++ (codes " " ++ (ip_text one.group ++ (codes " " ++ sources_text one.sources)))

-- `* PEER GROUP MODE SOURCES`
unfoldable pub row_text : Row → List ℕ
row_text row =
    codes "* "
    ++ (peer_text (peer_of row.endpoint)
    ++ (codes " "
    ++ (ip_text row.group
    ++ (codes " " ++ (mode_text row.filter.mode ++ (codes " " ++ (sources_text row.filter.sources ++ (10 ∷ []))))))))

-- `= N rows R`
abbrev pub count_line : ℕ → ℕ → List ℕ
count_line number count = codes "= " ++ (decimal number ++ (codes " rows " ++ (decimal count ++ (10 ∷ []))))

-- `= N rows R`, and a line for each of the R rows
unfoldable pub rows_text : ℕ → List Row → List ℕ
rows_text number rows = count_line number (length rows) ++ flat_map row_text rows

-- the events among items
abbrev pub event_in : RelayItem → Option Event
event_in (items.Event event) = Some event
event_in items.Show = None

-- the events among items, in order
abbrev pub events_in : List RelayItem → List Event
events_in all = filter_map event_in all

-- the step that an event is after these events, or what stands after them
abbrev pub item_text : Settings → Secret → List Event → ℕ → RelayItem → List ℕ
item_text settings secret events number (items.Event event) =
    step_text number (outcome_of settings secret events event) (sends_of settings secret events event)
item_text settings secret events number items.Show = rows_text number (rows_after settings secret events)

-- what a relay's run begins with
pub record RelayStart : Type 0 where
  pub settings : Settings
  pub secret : Secret

-- the text of an item after those before it
abbrev pub text_after : RelayStart → List RelayItem → ℕ → RelayItem → List ℕ
text_after start before number item = item_text start.settings start.secret (events_in before) number item

-- the text of a relay script
abbrev pub relay_script_text : RelayScript → List ℕ
relay_script_text script =
    script_text (text_after (record { settings = script.settings; secret = script.secret })) script.items
