-- The table of a relay: what it answers to an event, by its settings, secrets, moment and log (RFC
-- 7450, section 5.3). It is the one place that says what a message comes to, what is sent and what is
-- entered in the log.
use Rattle.std.specs.Prelude.{ℕ, max, nat_le, Bool, true, false, List, [], ◌∷◌, length, Option, Some, None, Result, Ok, Err}
use Rattle.amt_values.specs.{Endpoint.{endpoint_of}, EndpointValue.{EndpointValue}}
use Rattle.amt_messages.specs.{declared.{message.Message.{Message, TheVariants.{Discovery, Advertisement, Request, Query, Update, Multicast, Teardown}}, refusal.Refused.{Refused}}, Layout.{spelling_of}, Refusal.{message_of}}
use Rattle.inner_datagrams.specs.declared.head.Head.{Head}
use Rattle.source_filter.specs.declared.record.Record.{Record}
use Rattle.response_mac.specs.ResponseMac.{SecretsValue, is_good}
use Rattle.endpoint_membership.specs.{Limits.{live_count}, Memberships.{is_live}, Table.{TableSettings, limit_passed, memberships_now}, declared.{change.Change.{Change, TheVariants.{Clear, Mark, Reported}}, limits.LimitFault.{LimitFault}}}
use Rattle.relay_machine.specs.declared.{event.Event.{Event, TheVariants.{Moment, Datagram, Packet, Rotate, Limits}}, outcome.Outcome.{Outcome}}
use Rattle.relay_machine.specs.declared.outcome.Outcome.TheVariants.{Moved, Rotated, Resized, Advertised, Queried, BadSource, Undecoded, WrongKind, BadMac, Unlawful, Over, Updated, TornDown, NoTunnel, Copied}
use Rattle.relay_machine.specs.{declared.{outcome.Unlawful.{Unlawful as Fault}, sends.OneSend.{OneSend}, settings.Settings.{Settings}}, Packets.{copies, head_to_copy, targets_at}, Queries.{asks_for_mld, query_for}, Settings.{table_settings_of}, Updates.{forwardable_records, report_in}}

-- what an event comes to, what is sent, and what is entered in the accepted log
pub record EventAnswer : Type 0 where
  pub outcome : Outcome
  pub sends : List OneSend
  pub entry : Option Change

-- nothing is sent, and nothing entered
abbrev pub quiet : Outcome → EventAnswer
quiet outcome = record { outcome = outcome; sends = []; entry = None }

-- nothing is sent, and this is entered
abbrev pub entered : Outcome → Change → EventAnswer
entered outcome change = record { outcome = outcome; sends = []; entry = Some change }

-- this message is sent to an endpoint, and nothing entered
abbrev pub replied : Outcome → EndpointValue → Message → EventAnswer
replied outcome to message =
    record { outcome = outcome; sends = record { to = to; bytes = spelling_of message } ∷ []; entry = None }

-- no more tunnel endpoints find room (RFC 7450, section 5.1.4)
abbrev pub is_limited : TableSettings → List Change → Bool
is_limited terms log = nat_le terms.limits.endpoints (live_count (memberships_now terms log))

-- to a report that passes this limit, or none
abbrev pub limited_answer : Option LimitFault → Change → EventAnswer
limited_answer None change = entered Updated change
limited_answer (Some fault) change = quiet (Over fault)

-- to an Update, judged by its MAC, the report in it, and the limits that the memberships would pass
-- with the report's records on groups that are forwarded (RFC 7450, section 5.3.3)
abbrev pub update_answer : Bool → Result (List Record) Fault → (List Record → Option LimitFault) → EndpointValue → ℕ → EventAnswer
update_answer false reading passed source moment = quiet BadMac
update_answer true (Err fault) passed source moment = quiet (Unlawful fault)
update_answer true (Ok records) passed source moment =
    limited_answer (passed (forwardable_records records)) (Reported source (forwardable_records records) moment)

-- to a Teardown, judged by its MAC, and by whether the endpoint that it names has some group; a
-- clearing is entered, whether or not it has (RFC 7450, section 5.3.3)
abbrev pub teardown_answer : Bool → Bool → EndpointValue → ℕ → EventAnswer
teardown_answer false live named moment = quiet BadMac
teardown_answer true true named moment = entered TornDown (Clear named moment)
teardown_answer true false named moment = entered NoTunnel (Clear named moment)

-- to a message of this source, by its octets. An Update needs the MAC of its source, and a Teardown that
-- of the endpoint which it names
abbrev pub message_answer : Settings → SecretsValue → ℕ → List Change → List ℕ → EndpointValue → Message → EventAnswer
message_answer settings secrets moment log octets source (Discovery nonce) = replied Advertised source (Advertisement nonce settings.relay)
message_answer settings secrets moment log octets source (Advertisement nonce relay) = quiet (WrongKind 2)
message_answer settings secrets moment log octets source (Request v6 nonce) =
    let mld = asks_for_mld settings octets v6 in
    let limited = is_limited (table_settings_of settings) log in
    replied (Queried mld limited) source (query_for settings secrets.current mld limited source nonce)
message_answer settings secrets moment log octets source (Query limited mac nonce inner seen) = quiet (WrongKind 4)
message_answer settings secrets moment log octets source (Update mac nonce inner) =
    update_answer (is_good secrets source nonce mac) (report_in inner) (λ records. limit_passed (table_settings_of settings) log source records moment) source moment
message_answer settings secrets moment log octets source (Multicast packet) = quiet (WrongKind 6)
message_answer settings secrets moment log octets source (Teardown mac nonce named) =
    teardown_answer (is_good secrets named nonce mac) (is_live named (memberships_now (table_settings_of settings) log)) named moment

-- to a datagram, judged by its source, its octets, its type, and then what it asks
abbrev pub datagram_answer : Settings → SecretsValue → ℕ → List Change → List ℕ → Option EndpointValue → Result Message Refused → EventAnswer
datagram_answer settings secrets moment log octets None reading = quiet BadSource
datagram_answer settings secrets moment log octets (Some source) (Err refusal) = quiet (Undecoded refusal)
datagram_answer settings secrets moment log octets (Some source) (Ok message) = message_answer settings secrets moment log octets source message

-- to a packet, where these endpoints want a source in a group
abbrev pub packet_answer : (Head → List EndpointValue) → List ℕ → Result Head Outcome → EventAnswer
packet_answer targets packet (Err outcome) = quiet outcome
packet_answer targets packet (Ok head) =
    record { outcome = Copied (length (targets head)); sends = copies (targets head) packet; entry = None }

-- to an event, by settings with the limits that are in force
abbrev pub event_answer : Settings → SecretsValue → ℕ → List Change → Event → EventAnswer
event_answer settings secrets moment log (Moment reported) = entered (Moved (max moment reported)) (Mark (max moment reported))
event_answer settings secrets moment log (Rotate secret) = quiet Rotated
event_answer settings secrets moment log (Limits limits) = quiet Resized
event_answer settings secrets moment log (Packet bytes) =
    packet_answer (targets_at (table_settings_of settings) log moment) bytes (head_to_copy settings.packet_limit bytes)
event_answer settings secrets moment log (Datagram bytes from) =
    datagram_answer settings secrets moment log bytes (endpoint_of from) (message_of bytes)
