-- Nothing is sent in answer to a socket call that is refused, or to a datagram that is ignored.
use Rattle.std.proofs.{Common.{◌≡◌, ℕ, ◌==◌, ◌||◌, nat_lt, Bool, true, List, [], ◌∷◌, ◌++◌, map, Option, Some, None, Result, Ok, Err, refl, ap, ◌∙◌, append-nil}, lemmas.Bool.{cond_both}}
use Rattle.amt_values.specs.{EndpointValue.{EndpointValue}, declared.{address.Ip.{Ip}, mac.Mac48.{Mac48}, peer.Peer.{Peer}}}
use Rattle.amt_messages.specs.{Refusal.{message_of}, declared.{message.Message.{Message, TheVariants.{Advertisement, Query, Multicast}}, refusal.Refused.{Refused}}}
use Rattle.source_filter.specs.declared.{query.QueryFields.{QueryFields}, record.Record.{Record}}
use Rattle.socket_merge.specs.{Changes.{change_records}, FullReport.{is_quiet}, History.{AcceptedCall, Change, Close, LeaveAll, Open, SocketCall, with_call}}
use Rattle.gateway_machine.specs.Answers.{Answer, accepted_answer, advertisement_answer, answer_at, asked_relay, begin_with, call_answer, call_by, cause_heard, changed_answer, datagram_answer, due_answer, event_answer, fields_heard, is_idle, is_opening, joined_relay, packet_by, query_by, refusal_at}
use Rattle.gateway_machine.specs.{Exchange.{moved}, Outcomes.{IsRefused}, Runs.{Run, answer_in}, Sends.{Sending, datagram_of}, Settings.{family_of}, Timing.{farewell_ms}}
use Rattle.gateway_machine.specs.declared.{event.GatewayEvent.{GatewayEvent, TheVariants.{Moment, Nonce as Draws, Datagram, Open as Opens, Change as GetsFilter, Close as Closes, LeaveAll as LeavesAll}}, exchange.{Exchange.{Exchange}, GatewayState.{GatewayState, TheVariants.{Idle as InIdle, Discovering as InDiscovering, Requesting as InRequesting, Active as InActive}}}}
use Rattle.gateway_machine.specs.declared.{outcome.{Ignored.{Ignored}, SocketRefusal.{SocketRefusal}}, settings.GatewaySettings.{GatewaySettings}}
use Rattle.amt_pair.{specs.{Members.{kept_datagram, kept_upward}, Schedule.{Member, answer_at as answer_of, run_of_member, upwards_on}, declared.datagrams.UpDatagram.{UpDatagram}}, proofs.MembersAt.{kept_each}}

-- where it refuses it sends nothing
abbrev IsMute : Answer → Type 0
IsMute answer = IsRefused answer.outcome → answer.sends ≡ []

module _ (settings : GatewaySettings) where
  begin-mute : (relay : Option Peer) (exchange : Exchange) → IsMute (begin_with relay settings exchange)
  begin-mute None exchange = λ no. absurd no
  begin-mute (Some relay) exchange = λ no. absurd no

  due-mute : (state : GatewayState) (exchange : Exchange) → IsMute (due_answer state settings exchange)
  due-mute InIdle exchange = λ no. refl
  due-mute InRequesting exchange =
      cond_both (nat_lt exchange.tries 5) _ _ IsMute (λ _ no. absurd no) (λ _. begin-mute settings.relay exchange)
  due-mute state exchange = λ no. absurd no

  at-mute : (exchange : Exchange) (history : List AcceptedCall) → IsMute (answer_at settings exchange history)
  at-mute exchange history =
      cond_both (nat_lt exchange.moment exchange.due_ms || is_idle exchange.state) _ _ IsMute (λ _ no. refl)
      (λ _. cond_both (is_quiet history exchange.moment (farewell_ms exchange.query)) _ _ IsMute (λ _ no. refl) (λ _. due-mute exchange.state exchange))

  changed-mute : (exchange : Exchange) (history : List AcceptedCall) (changes : List Record) → IsMute (changed_answer settings exchange history changes)
  changed-mute exchange history [] = λ no. refl
  changed-mute exchange history (first ∷ more) = λ no. absurd no

  accepted-mute : (state : GatewayState) (opening : Bool) (exchange : Exchange) (before after : List AcceptedCall)
      → IsMute (accepted_answer state opening settings exchange before after)
  accepted-mute InIdle true exchange before after = begin-mute exchange.relay exchange
  accepted-mute InActive opening exchange before after = changed-mute exchange after (change_records (family_of settings) before after)
  accepted-mute state opening exchange before after = λ no. refl

  refusal-mute : (refusal : Option SocketRefusal) (accepted : Answer) (exchange : Exchange) → IsMute accepted → IsMute (call_by refusal accepted exchange)
  refusal-mute None accepted exchange mute = mute
  refusal-mute (Some refusal) accepted exchange mute = λ refused. refl

  call-mute : (call : SocketCall) (exchange : Exchange) (history : List AcceptedCall) → IsMute (call_answer settings exchange history call)
  call-mute call exchange history =
      refusal-mute (refusal_at exchange history call) _ exchange
      (accepted-mute exchange.state (is_opening call) exchange history (with_call exchange.moment call history))

  advertisement-mute : (state : GatewayState) (exchange : Exchange) (nonce : ℕ) (relay : Ip) → IsMute (advertisement_answer state settings exchange nonce relay)
  advertisement-mute InDiscovering exchange nonce relay = cond_both (exchange.nonce == nonce) _ _ IsMute (λ _ no. absurd no) (λ _ refused. refl)
  advertisement-mute state exchange nonce relay = λ refused. refl

  query-mute : (heard : Result QueryFields Ignored) (exchange : Exchange) (history : List AcceptedCall) (mac : Mac48) (nonce : ℕ) (seen : Option EndpointValue)
      → IsMute (query_by heard settings exchange history mac nonce seen)
  query-mute (Err cause) exchange history mac nonce seen = λ refused. refl
  query-mute (Ok fields) exchange history mac nonce seen = λ no. absurd no

  packet-mute : (cause : Option Ignored) (exchange : Exchange) (packet : List ℕ) → IsMute (packet_by cause exchange packet)
  packet-mute (Some cause) exchange packet = λ refused. refl
  packet-mute None exchange packet = λ no. refl

  datagram-mute : (reading : Result Message Refused) (exchange : Exchange) (history : List AcceptedCall) (from : Peer)
      → IsMute (datagram_answer settings exchange history from reading)
  datagram-mute (Ok (Advertisement nonce relay)) exchange history from = advertisement-mute exchange.state exchange nonce relay
  datagram-mute (Ok (Query limited mac nonce inner seen)) exchange history from =
      query-mute (fields_heard (asked_relay exchange.state exchange.relay) settings.v6 exchange from nonce inner) exchange history mac nonce seen
  datagram-mute (Ok (Multicast packet)) exchange history from =
      packet-mute (cause_heard (joined_relay exchange.state exchange.relay) history from packet) exchange packet
  datagram-mute reading exchange history from = λ refused. refl

  event-mute : (event : GatewayEvent) (exchange : Exchange) (history : List AcceptedCall) → IsMute (event_answer settings exchange history event)
  event-mute (Moment at) exchange history = at-mute (moved at exchange) history
  event-mute (Draws nonce) exchange history = λ no. refl
  event-mute (Datagram from bytes) exchange history = datagram-mute (message_of bytes) exchange history from
  event-mute (Opens name group filter) exchange history = call-mute (Open name group filter) exchange history
  event-mute (GetsFilter name filter) exchange history = call-mute (Change name filter) exchange history
  event-mute (Closes name) exchange history = call-mute (Close name) exchange history
  event-mute LeavesAll exchange history = call-mute LeaveAll exchange history

pub refused-sends : (settings : GatewaySettings) (run : Run) (event : GatewayEvent) → IsRefused (answer_in settings run event).outcome
    → (answer_in settings run event).sends ≡ []
refused-sends settings run event = event-mute settings event run.exchange run.history

-- so the datagrams that are kept stay as they were
pub refused-up : (member : Member) (event : GatewayEvent) (up : List UpDatagram) → IsRefused (answer_of member event).outcome
    → up ++ map kept_upward (upwards_on event member) ≡ up
refused-up member event up refused =
    let peer = member.host.peer in
    ap (λ (more : List UpDatagram). up ++ more)
    (kept_each peer event member refl
    ∙ ap (λ (sends : List Sending). map (kept_datagram peer) (map datagram_of sends)) (refused-sends member.host.settings (run_of_member member) event refused))
    ∙ append-nil up
