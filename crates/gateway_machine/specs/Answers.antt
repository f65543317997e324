-- The table of a gateway: what an event comes to, by the exchange and the socket calls before it (RFC
-- 7450, section 5.2.3). It is the one place that says what is sent, what is handed on, and how the
-- exchange goes on. Of the rows that fit an event the first counts.
use Rattle.std.specs.{Prelude.{ℕ, ◌==◌, ◌||◌, ◌&&◌, nat_lt, not, Bool, true, false, List, [], ◌∷◌, ◌++◌, Option, Some, None, Result, Ok, Err, if◌then◌else◌}, Ordering.{eq_by_cmp}}
use Rattle.amt_values.specs.{EndpointValue.{EndpointValue}, Group.{is_forwardable}, Order.{ip_order}, declared.{address.Ip.{Ip}, mac.Mac48.{Mac48}, peer.Peer.{Peer}}}
use Rattle.amt_messages.specs.{Refusal.{message_of}, declared.{message.Message.{Message, TheVariants.{Discovery, Advertisement, Request, Query, Update, Multicast, Teardown}}, refusal.Refused.{Refused}}}
use Rattle.inner_datagrams.specs.{Head.{head_of}, declared.head.{Head.{Head}, HeadFault.{HeadFault}}}
use Rattle.source_filter.specs.{declared.query.QueryFields.{QueryFields}, declared.record.Record.{Record}}
use Rattle.socket_merge.specs.{FullReport.{is_quiet}, History.{AcceptedCall, Change, Close, LeaveAll, Open, SocketCall, with_call}, Changes.{change_records}, Interface.{wants}, Refusal.{refusal_of}}
use Rattle.gateway_machine.specs.declared.{event.GatewayEvent.{GatewayEvent, TheVariants.{Moment, Nonce as Draws, Datagram, Open as Opens, Change as Changes, Close as Closes, LeaveAll as LeavesAll}}, exchange.Exchange.{Exchange}}
use Rattle.gateway_machine.specs.declared.exchange.{GatewayState.{GatewayState, TheVariants.{Idle as InIdle, Discovering as InDiscovering, Requesting as InRequesting, Active as InActive}}, LastQuery.{LastQuery}}
use Rattle.gateway_machine.specs.declared.outcome.GatewayOutcome.{GatewayOutcome, TheVariants.{Quiet, Drawn, Discovering, Requesting, Active, Idle, Changed, Kept, Delivered, SocketRefused, Ignored as IgnoredAs}}
use Rattle.gateway_machine.specs.declared.outcome.{Ignored.{Ignored, TheVariants.{Undecoded, Kind, State, Sender, Nonce, Head as NoHead, Scope, NotWanted}}, SocketRefusal.{SocketRefusal}}
use Rattle.gateway_machine.specs.{declared.settings.GatewaySettings.{GatewaySettings}, Exchange.{active, discovering, idle, moved, relay_named, requesting, retried, with_next_nonce}, General.{general_query_in}, Refusals.{refusal_by}, Reports.{change_reports, full_report, teardown}, Sends.{Sending, discovery, request}, Settings.{family_of}, Timing.{farewell_ms, interval_of, lifetime_of}}

-- the answer to an event: what it comes to, what is sent, what is handed on, and the exchange after it
pub record Answer : Type 0 where
  pub outcome : GatewayOutcome
  pub sends : List Sending
  pub deliver : Option (List ℕ)
  pub next : Exchange

-- the answer where nothing is sent or handed on
abbrev pub quiet : GatewayOutcome → Exchange → Answer
quiet outcome next = record { outcome = outcome; sends = []; deliver = None; next = next }

-- the answer where this is sent, and nothing is handed on
abbrev pub sending : GatewayOutcome → List Sending → Exchange → Answer
sending outcome sends next = record { outcome = outcome; sends = sends; deliver = None; next = next }

-- the answer to a datagram that is ignored
abbrev pub ignored : Exchange → Ignored → Answer
ignored exchange cause = quiet (IgnoredAs cause) exchange

-- the answer where a Discovery is sent, with the exchange after it
abbrev pub discover : GatewaySettings → Exchange → Answer
discover settings next = sending (Discovering next.tries) (discovery settings next) next

-- the answer where a Request is sent, with the exchange after it
abbrev pub ask : GatewaySettings → Exchange → Answer
ask settings next = sending (Requesting next.tries) (request settings next) next

-- the answer that begins an exchange: a Request is sent where a relay is known, else a Discovery
abbrev pub begin_with : Option Peer → GatewaySettings → Exchange → Answer
begin_with None settings exchange = discover settings (discovering exchange)
begin_with (Some relay) settings exchange = ask settings (requesting exchange)

-- the answer where something is due. Five Requests that nothing answers lead to a new discovery or, where
-- the relay is configured, to a new Request
abbrev pub due_answer : GatewayState → GatewaySettings → Exchange → Answer
due_answer InIdle settings exchange = quiet Quiet exchange
due_answer InDiscovering settings exchange = discover settings (retried exchange)
due_answer InRequesting settings exchange =
    if nat_lt exchange.tries 5 then ask settings (retried exchange) else begin_with settings.relay settings exchange
due_answer InActive settings exchange = ask settings (requesting exchange)

-- the gateway is Idle
abbrev pub is_idle : GatewayState → Bool
is_idle InIdle = true
is_idle state = false

-- the answer to the exchange's moment
abbrev pub answer_at : GatewaySettings → Exchange → List AcceptedCall → Answer
answer_at settings exchange history =
    if nat_lt exchange.moment exchange.due_ms || is_idle exchange.state then quiet Quiet exchange
    else (if is_quiet history exchange.moment (farewell_ms exchange.query) then quiet Idle (idle exchange)
    else due_answer exchange.state settings exchange)

-- the call opens a socket, which starts an idle gateway
abbrev pub is_opening : SocketCall → Bool
is_opening (Open name group filter) = true
is_opening call = false

-- the answer to a call that changes the groups' filters by these records
abbrev pub changed_answer : GatewaySettings → Exchange → List AcceptedCall → List Record → Answer
changed_answer settings exchange history [] = quiet Kept exchange
changed_answer settings exchange history (first ∷ more) =
    sending Changed (change_reports settings exchange history (first ∷ more)) exchange

-- the answer to an accepted call, by the history before and after it
abbrev pub accepted_answer : GatewayState → Bool → GatewaySettings → Exchange → List AcceptedCall → List AcceptedCall → Answer
accepted_answer InIdle true settings exchange before after = begin_with exchange.relay settings exchange
accepted_answer InActive opening settings exchange before after =
    changed_answer settings exchange after (change_records (family_of settings) before after)
accepted_answer state opening settings exchange before after = quiet Kept exchange

-- the answer to a call, which may be refused
abbrev pub call_by : Option SocketRefusal → Answer → Exchange → Answer
call_by None accepted exchange = accepted
call_by (Some refusal) accepted exchange = quiet (SocketRefused refusal) exchange

-- why a call is refused at the exchange's moment, if it is
abbrev pub refusal_at : Exchange → List AcceptedCall → SocketCall → Option SocketRefusal
refusal_at exchange history call = refusal_by (refusal_of exchange.moment call history)

-- the answer to a socket call
abbrev pub call_answer : GatewaySettings → Exchange → List AcceptedCall → SocketCall → Answer
call_answer settings exchange history call =
    call_by (refusal_at exchange history call)
    (accepted_answer exchange.state (is_opening call) settings exchange history (with_call exchange.moment call history))
    exchange

-- the answer to an Advertisement. Only a gateway in Discovering accepts one; its source isn't checked, since
-- its nonce is (RFC 7450, section 5.2.3.4)
abbrev pub advertisement_answer : GatewayState → GatewaySettings → Exchange → ℕ → Ip → Answer
advertisement_answer InDiscovering settings exchange nonce relay =
    if exchange.nonce == nonce then ask settings (requesting (relay_named relay settings.port exchange))
    else ignored exchange (Nonce exchange.nonce nonce)
advertisement_answer state settings exchange nonce relay = ignored exchange (State 2)

-- the relay that a Query is awaited from
abbrev pub asked_relay : GatewayState → Option Peer → Option Peer
asked_relay InRequesting relay = relay
asked_relay state relay = None

-- the relay that packets are taken from
abbrev pub joined_relay : GatewayState → Option Peer → Option Peer
joined_relay InRequesting relay = relay
joined_relay InActive relay = relay
joined_relay state relay = None

-- the peers are one
abbrev pub same_peer : Peer → Peer → Bool
same_peer one other = eq_by_cmp ip_order one.ip other.ip && one.port == other.port

-- the fields of the General Query in a Query from this peer, with this nonce and these inner octets, where a
-- Query is awaited from this relay, or why it is ignored. In Requesting the relay is there, by the law
-- states_have_relays
abbrev pub fields_heard : Option Peer → Bool → Exchange → Peer → ℕ → List ℕ → Result QueryFields Ignored
fields_heard None v6 exchange from nonce inner = Err (State 4)
fields_heard (Some relay) v6 exchange from nonce inner =
    if not (same_peer relay from) then Err (Sender relay from)
    else (if not (exchange.nonce == nonce) then Err (Nonce exchange.nonce nonce) else general_query_in v6 inner)

-- what is kept of a Query with these fields
abbrev pub query_kept : GatewaySettings → Mac48 → ℕ → Option EndpointValue → QueryFields → LastQuery
query_kept settings mac nonce seen fields = record {
  mac = mac;
  nonce = nonce;
  seen = seen;
  interval_seconds = interval_of fields;
  lifetime_ms = lifetime_of (family_of settings) fields;
}

-- the answer to a Query that is accepted: the endpoint seen before is torn down by the last MAC, and what is
-- wanted is reported by the new one
abbrev pub query_accepted : GatewaySettings → Exchange → List AcceptedCall → LastQuery → Answer
query_accepted settings exchange history query =
    sending Active
    (teardown exchange.query query.seen exchange ++ full_report settings (active query exchange) history)
    (active query exchange)

-- the answer to a Query by the fields that it carries, or by why it is ignored
abbrev pub query_by : Result QueryFields Ignored → GatewaySettings → Exchange → List AcceptedCall → Mac48 → ℕ → Option EndpointValue → Answer
query_by (Err cause) settings exchange history mac nonce seen = ignored exchange cause
query_by (Ok fields) settings exchange history mac nonce seen =
    query_accepted settings exchange history (query_kept settings mac nonce seen fields)

-- the answer to a Query (RFC 7450, section 5.2.3.5). The L flag changes nothing
abbrev pub query_answer : GatewaySettings → Exchange → List AcceptedCall → Peer → Mac48 → ℕ → List ℕ → Option EndpointValue → Answer
query_answer settings exchange history from mac nonce inner seen =
    query_by (fields_heard (asked_relay exchange.state exchange.relay) settings.v6 exchange from nonce inner)
    settings exchange history mac nonce seen

-- why a packet with this head is ignored, if it is
abbrev pub packet_cause : List AcceptedCall → Result Head HeadFault → Option Ignored
packet_cause history (Err fault) = Some (NoHead fault)
packet_cause history (Ok head) =
    if not (is_forwardable head.group) then Some (Scope head.group)
    else (if not (wants history head.group head.source) then Some (NotWanted head.group head.source) else None)

-- why a packet from this peer is ignored, if it is, where packets are taken from this relay. In Requesting
-- and Active the relay is there, by the law states_have_relays
abbrev pub cause_heard : Option Peer → List AcceptedCall → Peer → List ℕ → Option Ignored
cause_heard None history from packet = Some (State 6)
cause_heard (Some relay) history from packet =
    if not (same_peer relay from) then Some (Sender relay from) else packet_cause history (head_of packet)

-- the answer to a packet, which is handed on unless there is a cause against it
abbrev pub packet_by : Option Ignored → Exchange → List ℕ → Answer
packet_by (Some cause) exchange packet = ignored exchange cause
packet_by None exchange packet = record { outcome = Delivered; sends = []; deliver = Some packet; next = exchange }

-- the answer to Multicast Data (RFC 7450, section 5.2.3.3)
abbrev pub packet_answer : Exchange → List AcceptedCall → Peer → List ℕ → Answer
packet_answer exchange history from packet =
    packet_by (cause_heard (joined_relay exchange.state exchange.relay) history from packet) exchange packet

-- the answer to a datagram from this peer, by its reading
abbrev pub datagram_answer : GatewaySettings → Exchange → List AcceptedCall → Peer → Result Message Refused → Answer
datagram_answer settings exchange history from (Err refusal) = ignored exchange (Undecoded refusal)
datagram_answer settings exchange history from (Ok (Discovery nonce)) = ignored exchange (Kind 1)
datagram_answer settings exchange history from (Ok (Advertisement nonce relay)) =
    advertisement_answer exchange.state settings exchange nonce relay
datagram_answer settings exchange history from (Ok (Request v6 nonce)) = ignored exchange (Kind 3)
datagram_answer settings exchange history from (Ok (Query limited mac nonce inner seen)) =
    query_answer settings exchange history from mac nonce inner seen
datagram_answer settings exchange history from (Ok (Update mac nonce inner)) = ignored exchange (Kind 5)
datagram_answer settings exchange history from (Ok (Multicast packet)) = packet_answer exchange history from packet
datagram_answer settings exchange history from (Ok (Teardown mac nonce gateway)) = ignored exchange (Kind 7)

-- the answer to an event
abbrev pub event_answer : GatewaySettings → Exchange → List AcceptedCall → GatewayEvent → Answer
event_answer settings exchange history (Moment at) = answer_at settings (moved at exchange) history
event_answer settings exchange history (Draws nonce) = quiet Drawn (with_next_nonce nonce exchange)
event_answer settings exchange history (Datagram from bytes) = datagram_answer settings exchange history from (message_of bytes)
event_answer settings exchange history (Opens name group filter) = call_answer settings exchange history (Open name group filter)
event_answer settings exchange history (Changes name filter) = call_answer settings exchange history (Change name filter)
event_answer settings exchange history (Closes name) = call_answer settings exchange history (Close name)
event_answer settings exchange history LeavesAll = call_answer settings exchange history LeaveAll

-- the call that an event makes, if it makes one
abbrev pub call_in : GatewayEvent → Option SocketCall
call_in (Opens name group filter) = Some (Open name group filter)
call_in (Changes name filter) = Some (Change name filter)
call_in (Closes name) = Some (Close name)
call_in LeavesAll = Some LeaveAll
call_in event = None

-- the history with a call, unless it is refused
abbrev pub if_accepted : Option SocketRefusal → List AcceptedCall → List AcceptedCall → List AcceptedCall
if_accepted None before after = after
if_accepted (Some refusal) before after = before

-- the history after a call, if there is one
abbrev pub history_by : Option SocketCall → Exchange → List AcceptedCall → List AcceptedCall
history_by None exchange history = history
history_by (Some call) exchange history =
    if_accepted (refusal_at exchange history call) history (with_call exchange.moment call history)

-- the history after an event
abbrev pub history_after : Exchange → List AcceptedCall → GatewayEvent → List AcceptedCall
history_after exchange history event = history_by (call_in event) exchange history
