-- A step of the gateway sends at most two datagrams: two Updates where a filter changed, a Teardown and an Update
-- where a Query was accepted, and else one or none.
use Rattle.std.proofs.Common.{◌≤◌, ℕ, Bool, true, false, List, [], ◌∷◌, ◌++◌, length, Option, None, Some, Result, Ok, Err, nat_lt, ◌||◌, ◌==◌, if◌then◌else◌, arith, length-append}
use Rattle.amt_values.specs.{EndpointValue.{EndpointValue}, declared.{address.Ip.{Ip}, mac.Mac48.{Mac48}, peer.Peer.{Peer}}}
use Rattle.amt_messages.specs.{Refusal.{message_of}, declared.{message.Message.{Message, TheVariants.{Discovery, Advertisement, Request, Query, Update, Multicast, Teardown}}, refusal.Refused.{Refused}}}
use Rattle.source_filter.specs.{declared.query.QueryFields.{QueryFields}, declared.record.Record.{Record}}
use Rattle.socket_merge.specs.{FullReport.{is_quiet}, History.{AcceptedCall, SocketCall, Open, Change, Close, LeaveAll, with_call}, Changes.{change_records}}
use Rattle.gateway_machine.specs.Answers.{Answer, accepted_answer, advertisement_answer, answer_at, ask, begin_with, call_answer, call_by, cause_heard, changed_answer, datagram_answer, due_answer, event_answer, fields_heard, ignored, is_idle, is_opening, asked_relay, joined_relay, packet_by, query_by, query_kept, quiet, refusal_at}
use Rattle.gateway_machine.specs.{Exchange.{active, idle, moved, relay_named, requesting, retried}, Reports.{full_records, full_report, same_endpoint, teardown, teardown_by, teardown_if, update, update_by, update_of}, Runs.{answer_after, run_of}}
use Rattle.gateway_machine.specs.{Sends.{Sending, request_to, to_relay}, Settings.{family_of}, Timing.{farewell_ms}, declared.{event.GatewayEvent.{GatewayEvent}, exchange.{Exchange.{Exchange}, GatewayState.{GatewayState, TheVariants.{Idle, Discovering, Requesting, Active}}}}}
use Rattle.gateway_machine.specs.declared.{exchange.LastQuery.{LastQuery}, outcome.{Ignored.{Ignored, TheVariants.{Nonce as OtherNonce}}, GatewayOutcome.TheVariants.{Quiet, Idle as GoesIdle}, SocketRefusal.{SocketRefusal}}, settings.GatewaySettings.{GatewaySettings}}
use Rattle.gateway_machine.specs.declared.event.GatewayEvent.TheVariants as events

-- at most two are sent
abbrev SendsFew : Answer → Type 0
SendsFew answer = length answer.sends ≤ 2

to_relay-one : (relay : Option Peer) (full_report : Bool) (message : Message) → length (to_relay relay full_report message) ≤ 1
to_relay-one None full_report message = omega arith
to_relay-one (Some relay) full_report message = omega arith

request_to-one : (relay : Option Peer) (settings : GatewaySettings) (nonce : ℕ) → length (request_to relay settings nonce) ≤ 1
request_to-one None settings nonce = omega arith
request_to-one (Some relay) settings nonce = omega arith

ask-few : (settings : GatewaySettings) (next : Exchange) → SendsFew (ask settings next)
ask-few settings next = let one = request_to-one next.relay settings next.nonce in omega (arith, one)

either-few : (test : Bool) (one other : Answer) → SendsFew one → SendsFew other → SendsFew (if test then one else other)
either-few true one other few others = few
either-few false one other few others = others

begin_with-few : (relay : Option Peer) (settings : GatewaySettings) (exchange : Exchange) → SendsFew (begin_with relay settings exchange)
begin_with-few None settings exchange = omega arith
begin_with-few (Some relay) settings exchange = ask-few settings (requesting exchange)

due_answer-few : (state : GatewayState) (settings : GatewaySettings) (exchange : Exchange) → SendsFew (due_answer state settings exchange)
due_answer-few Idle settings exchange = omega arith
due_answer-few Discovering settings exchange = omega arith
due_answer-few Requesting settings exchange = either-few _ _ _ (ask-few settings (retried exchange)) (begin_with-few settings.relay settings exchange)
due_answer-few Active settings exchange = ask-few settings (requesting exchange)

answer_at-few : (settings : GatewaySettings) (exchange : Exchange) (history : List AcceptedCall) → SendsFew (answer_at settings exchange history)
answer_at-few settings exchange history =
    let still : SendsFew (quiet Quiet exchange) = omega arith in
    let ends : SendsFew (quiet GoesIdle (idle exchange)) = omega arith in
    either-few (nat_lt exchange.moment exchange.due_ms || is_idle exchange.state) _ _ still
    (either-few (is_quiet history exchange.moment (farewell_ms exchange.query)) _ _ ends (due_answer-few exchange.state settings exchange))

update_of-one : (settings : GatewaySettings) (exchange : Exchange) (query : LastQuery) (full_report : Bool) (records : List Record) → length (update_of settings exchange query full_report records) ≤ 1
update_of-one settings exchange query full_report [] = omega arith
update_of-one settings exchange query full_report (first ∷ more) = to_relay-one exchange.relay full_report _

update_by-one : (query : Option LastQuery) (settings : GatewaySettings) (exchange : Exchange) (full_report : Bool) (records : List Record) → length (update_by query settings exchange full_report records) ≤ 1
update_by-one None settings exchange full_report records = omega arith
update_by-one (Some query) settings exchange full_report records = update_of-one settings exchange query full_report records

-- one and one are two
both-few : (one other : List Sending) → length one ≤ 1 → length other ≤ 1 → length (one ++ other) ≤ 2
both-few one other few others = let all = length-append one other in omega (arith, all, few, others)

changed_answer-few : (settings : GatewaySettings) (exchange : Exchange) (history : List AcceptedCall) (records : List Record) → SendsFew (changed_answer settings exchange history records)
changed_answer-few settings exchange history [] = omega arith
changed_answer-few settings exchange history (first ∷ more) =
    both-few (update settings exchange false (first ∷ more)) (full_report settings exchange history)
    (update_by-one exchange.query settings exchange false (first ∷ more))
    (update_by-one exchange.query settings exchange true (full_records settings exchange history))

accepted_answer-few : (state : GatewayState) (opening : Bool) (settings : GatewaySettings) (exchange : Exchange) (before after : List AcceptedCall) → SendsFew (accepted_answer state opening settings exchange before after)
accepted_answer-few Idle true settings exchange before after = begin_with-few exchange.relay settings exchange
accepted_answer-few Idle false settings exchange before after = omega arith
accepted_answer-few Discovering opening settings exchange before after = omega arith
accepted_answer-few Requesting opening settings exchange before after = omega arith
accepted_answer-few Active opening settings exchange before after = changed_answer-few settings exchange after (change_records (family_of settings) before after)

call_by-few : (refusal : Option SocketRefusal) (accepted : Answer) (exchange : Exchange) → SendsFew accepted → SendsFew (call_by refusal accepted exchange)
call_by-few None accepted exchange few = few
call_by-few (Some refusal) accepted exchange few = omega arith

call_answer-few : (settings : GatewaySettings) (exchange : Exchange) (history : List AcceptedCall) (call : SocketCall) → SendsFew (call_answer settings exchange history call)
call_answer-few settings exchange history call =
    call_by-few (refusal_at exchange history call) _ exchange
    (accepted_answer-few exchange.state (is_opening call) settings exchange history (with_call exchange.moment call history))

advertisement_answer-few : (state : GatewayState) (settings : GatewaySettings) (exchange : Exchange) (nonce : ℕ) (relay : Ip) → SendsFew (advertisement_answer state settings exchange nonce relay)
advertisement_answer-few Discovering settings exchange nonce relay =
    let none : SendsFew (ignored exchange (OtherNonce exchange.nonce nonce)) = omega arith in
    either-few (exchange.nonce == nonce) _ _ (ask-few settings (requesting (relay_named relay settings.port exchange))) none
advertisement_answer-few Idle settings exchange nonce relay = omega arith
advertisement_answer-few Requesting settings exchange nonce relay = omega arith
advertisement_answer-few Active settings exchange nonce relay = omega arith

teardown_if-one : (same : Bool) (exchange : Exchange) (last : LastQuery) (before : EndpointValue) → length (teardown_if same exchange last before) ≤ 1
teardown_if-one true exchange last before = omega arith
teardown_if-one false exchange last before = to_relay-one exchange.relay false _

teardown_by-one : (seen now : Option EndpointValue) (exchange : Exchange) (last : LastQuery) → length (teardown_by seen now exchange last) ≤ 1
teardown_by-one None now exchange last = omega arith
teardown_by-one (Some before) None exchange last = omega arith
teardown_by-one (Some before) (Some seen) exchange last = teardown_if-one (same_endpoint before seen) exchange last before

teardown-one : (query : Option LastQuery) (seen : Option EndpointValue) (exchange : Exchange) → length (teardown query seen exchange) ≤ 1
teardown-one None seen exchange = omega arith
teardown-one (Some last) seen exchange = teardown_by-one last.seen seen exchange last

query_by-few : (fields : Result QueryFields Ignored) (settings : GatewaySettings) (exchange : Exchange) (history : List AcceptedCall) (mac : Mac48) (nonce : ℕ) (seen : Option EndpointValue)
    → SendsFew (query_by fields settings exchange history mac nonce seen)
query_by-few (Err cause) settings exchange history mac nonce seen = omega arith
query_by-few (Ok fields) settings exchange history mac nonce seen =
    let query = query_kept settings mac nonce seen fields in
    both-few (teardown exchange.query query.seen exchange) (full_report settings (active query exchange) history)
    (teardown-one exchange.query query.seen exchange)
    (update_by-one (active query exchange).query settings (active query exchange) true (full_records settings (active query exchange) history))

packet_by-few : (cause : Option Ignored) (exchange : Exchange) (packet : List ℕ) → SendsFew (packet_by cause exchange packet)
packet_by-few None exchange packet = omega arith
packet_by-few (Some cause) exchange packet = omega arith

datagram_answer-few : (settings : GatewaySettings) (exchange : Exchange) (history : List AcceptedCall) (from : Peer) (message : Result Message Refused) → SendsFew (datagram_answer settings exchange history from message)
datagram_answer-few settings exchange history from (Err refusal) = omega arith
datagram_answer-few settings exchange history from (Ok (Discovery nonce)) = omega arith
datagram_answer-few settings exchange history from (Ok (Advertisement nonce relay)) = advertisement_answer-few exchange.state settings exchange nonce relay
datagram_answer-few settings exchange history from (Ok (Request v6 nonce)) = omega arith
datagram_answer-few settings exchange history from (Ok (Query limited mac nonce inner seen)) =
    query_by-few (fields_heard (asked_relay exchange.state exchange.relay) settings.v6 exchange from nonce inner) settings exchange history mac nonce seen
datagram_answer-few settings exchange history from (Ok (Update mac nonce inner)) = omega arith
datagram_answer-few settings exchange history from (Ok (Multicast packet)) =
    packet_by-few (cause_heard (joined_relay exchange.state exchange.relay) history from packet) exchange packet
datagram_answer-few settings exchange history from (Ok (Teardown mac nonce gateway)) = omega arith

event_answer-few : (settings : GatewaySettings) (exchange : Exchange) (history : List AcceptedCall) (event : GatewayEvent) → SendsFew (event_answer settings exchange history event)
event_answer-few settings exchange history (events.Moment at) = answer_at-few settings (moved at exchange) history
event_answer-few settings exchange history (events.Nonce nonce) = omega arith
event_answer-few settings exchange history (events.Datagram from bytes) = datagram_answer-few settings exchange history from (message_of bytes)
event_answer-few settings exchange history (events.Open name group filter) = call_answer-few settings exchange history (Open name group filter)
event_answer-few settings exchange history (events.Change name filter) = call_answer-few settings exchange history (Change name filter)
event_answer-few settings exchange history (events.Close name) = call_answer-few settings exchange history (Close name)
event_answer-few settings exchange history events.LeaveAll = call_answer-few settings exchange history LeaveAll

pub answer_after-few : (settings : GatewaySettings) (first : ℕ) (events : List GatewayEvent) (event : GatewayEvent) → length (answer_after settings first events event).sends ≤ 2
answer_after-few settings first events event =
    event_answer-few settings (run_of settings first events).exchange (run_of settings first events).history event
