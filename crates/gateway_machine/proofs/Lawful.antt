-- What holds of each answer of a gateway: one walk over the table, from which the laws of its runs follow.
use Rattle.std.{proofs.{Common.{◌≡◌, ◌≤◌, ℕ, eqb, nat_lt, not, ◌||◌, Bool, true, false, List, [], ◌∷◌, ◌++◌, All, Option, Some, None, Result, Ok, Err, if◌then◌else◌, refl, ap, subst, ◌∙◌, arith}, lemmas.{Bool.{and_parts, cond_both, eqb-true}, List.Elements.{All-append, All-cons, All-nil}}}, specs.{List.{filter_map}, Ordering.{eq_by_cmp}}}
use Rattle.amt_values.{specs.{EndpointValue.{EndpointValue}, Group.{is_forwardable}, Order.{ip_order}, declared.{address.Ip.{Ip}, mac.Mac48.{Mac48}, peer.Peer.{Peer}}}, proofs.{AscendingLaws.{Equal-from_test}, Orders.{ip_order-exact}}}
use Rattle.amt_messages.specs.{Refusal.{message_of}, declared.{message.Message.{Message, TheVariants.{Discovery, Advertisement, Request, Query, Update, Multicast, Teardown}}, refusal.Refused.{Refused}}}
use Rattle.inner_datagrams.specs.{Head.{head_of}, declared.head.{Head.{Head}, HeadFault.{HeadFault}}}
use Rattle.source_filter.specs.declared.{query.QueryFields.{QueryFields}, record.Record.{Record}}
use Rattle.socket_merge.specs.{Changes.{change_records}, FullReport.{is_quiet}, History.{AcceptedCall, Change, Close, LeaveAll, Open, SocketCall, with_call}, Interface.{wants}}
use Rattle.gateway_machine.specs.declared.{event.GatewayEvent.{GatewayEvent, TheVariants.{Moment, Nonce as Draws, Datagram, Open as Opens, Change as Changes, Close as Closes, LeaveAll as LeavesAll}}, exchange.{Exchange.{Exchange}, LastQuery.{LastQuery}}, settings.GatewaySettings.{GatewaySettings}}
use Rattle.gateway_machine.specs.declared.exchange.GatewayState.{GatewayState, TheVariants.{Idle as InIdle, Discovering as InDiscovering, Requesting as InRequesting, Active as InActive}}
use Rattle.gateway_machine.specs.declared.outcome.{GatewayOutcome.{GatewayOutcome, TheVariants.{Quiet, Drawn, Active, Idle, Kept, SocketRefused, Ignored as IgnoredAs}}, Ignored.{Ignored, TheVariants.{State, Sender, Nonce, Head as NoHead, Scope, NotWanted}}, SocketRefusal.{SocketRefusal}}
use Rattle.gateway_machine.specs.Answers.{Answer, accepted_answer, advertisement_answer, answer_at, ask, begin_with, call_answer, call_by, changed_answer, datagram_answer, discover, due_answer, event_answer, ignored, is_idle, is_opening, packet_answer, packet_by, packet_cause, query_answer, query_by, query_kept, quiet, refusal_at, same_peer}
use Rattle.gateway_machine.specs.{Exchange.{active, discovering, idle, moved, relay_named, requesting, retried, with_next_nonce}, General.{general_query_in}, Laws.{HasQuery, HasRelay, IsDirected, destination, last_of, nonce_asked}, Outcomes.{IsRefused}}
use Rattle.gateway_machine.specs.{Reports.{full_records, report_datagram, same_endpoint, teardown, teardown_by, teardown_if, update_by}, Sends.{Sending, to_relay}, Settings.{family_of}, Timing.{farewell_ms}}

-- no relay is looked for
abbrev pub IsFound : GatewayState → Type 0
IsFound InDiscovering = ⊥
IsFound state = Unit {0}

-- where a Query is awaited, the nonce in use is that of the last Request
abbrev pub IsAsked : GatewayState → ℕ → Option ℕ → Type 0
IsAsked InRequesting nonce asked = asked ≡ Some nonce
IsAsked state nonce asked = Unit {0}

-- of the MAC and the nonce of a query that is kept this holds
abbrev pub IsBy : (Mac48 → ℕ → Type 0) → Option LastQuery → Type 0
IsBy Good None = Unit {0}
IsBy Good (Some query) = Good query.mac query.nonce

-- of the MAC and the nonce of an Update or a Teardown this holds
abbrev pub Carries : (Mac48 → ℕ → Type 0) → Message → Type 0
Carries Good (Update mac nonce inner) = Good mac nonce
Carries Good (Teardown mac nonce gateway) = Good mac nonce
Carries Good message = Unit {0}

-- an Update carries a report of some records, from the gateway's own source
abbrev pub IsReporting : GatewaySettings → Message → Type 0
IsReporting settings (Update mac nonce inner) = (records : List Record) × (inner ≡ report_datagram settings.source records)
IsReporting settings message = Unit {0}

-- the nonces of the Requests
abbrev pub nonces_asked : List Sending → List ℕ
nonces_asked sends = filter_map (λ sending. nonce_asked sending.message) sends

-- what holds in every run of the state, the relay, the nonce in use and the query that is kept, where the last
-- Request had the nonce `asked`: a configured relay is the relay, and none is looked for
pub record IsSoundBy (Good : Mac48 → ℕ → Type 0) (configured : Option Peer) (asked : Option ℕ) (state : GatewayState) (known : Option Peer) (nonce : ℕ) (last : Option LastQuery) : Type 0 where
  pub relay : HasRelay state known
  pub query : HasQuery state last
  pub kept : (peer : Peer) → configured ≡ Some peer → (known ≡ Some peer) × IsFound state
  pub request : IsAsked state nonce asked
  pub by : IsBy Good last

-- peers that are told to be one are one
same_peer-is : (one other : Peer) → same_peer one other ≡ true → Some one ≡ Some other
same_peer-is one other same =
    let parts = and_parts (eq_by_cmp ip_order one.ip other.ip) (eqb one.port other.port) same in
    let ip : one.ip ≡ other.ip = ip_order-exact one.ip other.ip (Equal-from_test (ip_order one.ip other.ip) parts.0) in
    let port : one.port ≡ other.port = eqb-true one.port other.port parts.1 in
    λ i. Some (record { ip = ip i; port = port i })

-- so is an exchange with this state, relay, nonce and query
abbrev pub IsSound : (Mac48 → ℕ → Type 0) → GatewaySettings → Option ℕ → Exchange → Type 0
IsSound Good settings asked exchange = IsSoundBy Good settings.relay asked exchange.state exchange.relay exchange.nonce exchange.query

-- the message goes where it should, an Update's or a Teardown's MAC and nonce are good, an Update carries a report,
-- and only by the settings is a message for a Linux relay
abbrev pub IsFit : (Mac48 → ℕ → Type 0) → GatewaySettings → Option Peer → Sending → Type 0
IsFit Good settings relay sending =
    IsDirected settings relay sending × Carries Good sending.message × IsReporting settings sending.message × (sending.for_linux ≡ true → settings.linux_relay ≡ true)

-- each message is fit, and the exchange after the answer is sound
pub record IsSoundAnswer (Good : Mac48 → ℕ → Type 0) (settings : GatewaySettings) (asked : Option ℕ) (answer : Answer) : Type 0 where
  pub sends : All (IsFit Good settings answer.next.relay) answer.sends
  pub next : IsSound Good settings (last_of asked (nonces_asked answer.sends)) answer.next

-- Of a Query's MAC and nonce `Good` holds, of a packet that is handed on `Given`, and of the exchange that a
-- refusal leaves `Left`.
module _ (Good : Mac48 → ℕ → Type 0) (Given : List ℕ → Type 0) (Left : Exchange → Type 0) (settings : GatewaySettings) (asked : Option ℕ) where
  abbrev Sound : Exchange → Type 0
  Sound exchange = IsSound Good settings asked exchange

  abbrev SoundAnswer : Answer → Type 0
  SoundAnswer answer = IsSoundAnswer Good settings asked answer

  abbrev AllFit : Option Peer → List Sending → Type 0
  AllFit relay sends = All (IsFit Good settings relay) sends

  pub record IsLawful (exchange : Exchange) (answer : Answer) : Type 0 where
    pub later : exchange.moment ≤ answer.next.moment
    pub refused : IsRefused answer.outcome → Left answer.next
    pub given : (packet : List ℕ) → answer.deliver ≡ Some packet → Given packet
    pub sound : Sound exchange → SoundAnswer answer

  -- what is owed by a datagram that is accepted: its Query is good, and its packet may be handed on
  pub record IsOwed (exchange : Exchange) (history : List AcceptedCall) (from : Peer) (reading : Result Message Refused) (answer : Answer) : Type 0 where
    pub good : (limited : Bool) (mac : Mac48) (nonce : ℕ) (inner : List ℕ) (seen : Option EndpointValue) → reading ≡ Ok (Query limited mac nonce inner seen)
        → exchange.relay ≡ Some from → asked ≡ Some nonce → answer.outcome ≡ Active → Good mac nonce
    pub given : (packet : List ℕ) (head : Head) → reading ≡ Ok (Multicast packet) → exchange.relay ≡ Some from
        → head_of packet ≡ Ok head → is_forwardable head.group ≡ true → wants history head.group head.source ≡ true → Given packet

  none : (relay : Option Peer) → AllFit relay []
  none relay = All-nil (IsFit Good settings relay)

  both : (relay : Option Peer) (one other : List Sending) → AllFit relay one → AllFit relay other → AllFit relay (one ++ other)
  both relay one other first second = All-append (IsFit Good settings relay) one other first second

  to_relay-fit : (relay : Option Peer) (full : Bool) (message : Message) → destination settings.discovery relay message ≡ relay → Carries Good message
      → IsReporting settings message → AllFit relay (to_relay relay full message)
  to_relay-fit None full message is carries reports = none None
  to_relay-fit (Some peer) full message is carries reports =
      All-cons (IsFit Good settings (Some peer)) (record { to = peer; message = message; full_report = full; for_linux = false }) [] (is, carries, reports, λ for_linux. cc for_linux) (none (Some peer))

  update-fit : (query : Option LastQuery) (exchange : Exchange) (full : Bool) (records : List Record) → IsBy Good query → AllFit exchange.relay (update_by query settings exchange full records)
  update-fit None exchange full records by = none exchange.relay
  update-fit (Some query) exchange full [] by = none exchange.relay
  update-fit (Some query) exchange full (one ∷ more) by = to_relay-fit exchange.relay full (Update query.mac query.nonce (report_datagram settings.source (one ∷ more))) refl by (one ∷ more, refl)

  teardown_if-fit : (same : Bool) (exchange : Exchange) (last : LastQuery) (before : EndpointValue) → Good last.mac last.nonce → AllFit exchange.relay (teardown_if same exchange last before)
  teardown_if-fit true exchange last before good = none exchange.relay
  teardown_if-fit false exchange last before good = to_relay-fit exchange.relay false (Teardown last.mac last.nonce before) refl good tt

  teardown-fit : (before seen : Option EndpointValue) (exchange : Exchange) (last : LastQuery) → Good last.mac last.nonce → AllFit exchange.relay (teardown_by before seen exchange last)
  teardown-fit (Some before) (Some seen) exchange last good = teardown_if-fit (same_endpoint before seen) exchange last before good
  teardown-fit (Some before) None exchange last good = none exchange.relay
  teardown-fit None seen exchange last good = none exchange.relay

  torn-fit : (query : Option LastQuery) (seen : Option EndpointValue) (exchange : Exchange) → IsBy Good query → AllFit exchange.relay (teardown query seen exchange)
  torn-fit None seen exchange by = none exchange.relay
  torn-fit (Some last) seen exchange by = teardown-fit last.seen seen exchange last by

  -- an answer that refuses nothing and hands nothing on
  heeds : (exchange : Exchange) (answer : Answer) → exchange.moment ≡ answer.next.moment → (IsRefused answer.outcome → ⊥) → answer.deliver ≡ None → (Sound exchange → SoundAnswer answer)
      → IsLawful exchange answer
  heeds exchange answer same heeded delivers sound = record { later = omega arith; refused = λ no. absurd (heeded no); given = λ packet is. absurd cc; sound = sound }

  -- one that leaves the exchange
  stays : (outcome : GatewayOutcome) (exchange : Exchange) → (IsRefused outcome → Left exchange) → IsLawful exchange (quiet outcome exchange)
  stays outcome exchange left = record { later = omega arith; refused = left; given = λ packet is. absurd cc; sound = λ is. record { sends = none exchange.relay; next = is } }

  discovers : (exchange next : Exchange) → exchange.moment ≡ next.moment → (Sound exchange → Sound next) → IsLawful exchange (discover settings next)
  discovers exchange next same sound =
      heeds exchange (discover settings next) same (λ no. no) refl (λ is. record {
        sends = All-cons (IsFit Good settings next.relay) (record { to = settings.discovery; message = Discovery next.nonce; full_report = false; for_linux = false }) [] (refl, tt, tt, λ for_linux. cc for_linux) (none next.relay);
        next = sound is;
      })

  -- a Request is sent to a relay that is known, so it is the last one
  ask-sound : (relay : Option Peer) (next : Exchange) → IsSoundBy Good settings.relay (Some next.nonce) InRequesting relay next.nonce next.query
      → SoundAnswer (ask settings (record next { state = InRequesting; relay = relay }))
  ask-sound None next is = let unknown = is.relay.1 in absurd cc
  ask-sound (Some peer) next is = record {
    sends = All-cons (IsFit Good settings (Some peer)) (record { to = peer; message = Request settings.v6 next.nonce; full_report = false; for_linux = settings.linux_relay }) [] (refl, tt, tt, λ for_linux. for_linux) (none (Some peer));
    next = is;
  }

  asks : (exchange next : Exchange) → exchange.moment ≡ next.moment → (Sound exchange → IsSoundBy Good settings.relay (Some next.nonce) InRequesting next.relay next.nonce next.query)
      → IsLawful exchange (ask settings (record next { state = InRequesting }))
  asks exchange next same sound = heeds exchange (ask settings (record next { state = InRequesting })) same (λ no. no) refl (λ is. ask-sound next.relay next (sound is))

  begins : (known : Option Peer) (exchange : Exchange)
      → (Sound exchange → (peer : Peer) → (known ≡ Some peer → exchange.relay ≡ Some peer) × (settings.relay ≡ Some peer → known ≡ Some peer))
      → IsLawful exchange (begin_with known settings exchange)
  begins None exchange same =
      discovers exchange (discovering exchange) refl (λ is. record { relay = tt; query = tt; kept = λ peer set. let no = (same is peer).1 set in absurd cc; request = tt; by = is.by })
  begins (Some known) exchange same =
      asks exchange (requesting exchange) refl (λ is. record { relay = (known, (same is known).0 refl); query = tt; kept = λ peer set. ((is.kept peer set).0, tt); request = refl; by = is.by })

  due-lawful : (state : GatewayState) (exchange : Exchange) → IsLawful (record exchange { state = state }) (due_answer state settings (record exchange { state = state }))
  due-lawful InIdle exchange = stays Quiet (record exchange { state = InIdle }) (λ no. absurd no)
  due-lawful InDiscovering exchange = discovers (record exchange { state = InDiscovering }) (retried (record exchange { state = InDiscovering })) refl (λ is. is)
  due-lawful InRequesting exchange =
      let at : Exchange = record exchange { state = InRequesting } in
      cond_both (nat_lt exchange.tries 5) _ _ (IsLawful at) (λ _. asks at (retried at) refl (λ is. record { relay = is.relay; query = tt; kept = is.kept; request = refl; by = is.by }))
      (λ _. begins settings.relay at (λ is peer. (λ set. (is.kept peer set).0, λ set. set)))
  due-lawful InActive exchange =
      let at : Exchange = record exchange { state = InActive } in
      asks at (requesting at) refl (λ is. record { relay = is.relay; query = tt; kept = is.kept; request = refl; by = is.by })

  at-lawful : (exchange : Exchange) (history : List AcceptedCall) → IsLawful exchange (answer_at settings exchange history)
  at-lawful exchange history =
      cond_both (nat_lt exchange.moment exchange.due_ms || is_idle exchange.state) _ _ (IsLawful exchange) (λ _. stays Quiet exchange (λ no. absurd no))
      (λ _. cond_both (is_quiet history exchange.moment (farewell_ms exchange.query)) _ _ (IsLawful exchange)
      (λ _. heeds exchange (quiet Idle (idle exchange)) refl (λ no. no) refl (λ is. record {
        sends = none exchange.relay;
        next = record { relay = tt; query = tt; kept = λ peer set. ((is.kept peer set).0, tt); request = tt; by = is.by };
      }))
      (λ _. due-lawful exchange.state exchange))

  changed-lawful : (exchange : Exchange) (history : List AcceptedCall) (changes : List Record)
      → IsLawful (record exchange { state = InActive }) (changed_answer settings (record exchange { state = InActive }) history changes)
  changed-lawful exchange history [] = stays Kept _ (λ no. absurd no)
  changed-lawful exchange history (one ∷ more) =
      let at : Exchange = record exchange { state = InActive } in
      heeds at (changed_answer settings at history (one ∷ more)) refl (λ no. no) refl (λ is. record {
        sends = both at.relay _ _ (update-fit at.query at false (one ∷ more) is.by) (update-fit at.query at true (full_records settings at history) is.by);
        next = record { relay = is.relay; query = is.query; kept = is.kept; request = tt; by = is.by };
      })

  pub accepted-lawful : (state : GatewayState) (opening : Bool) (exchange : Exchange) (before after : List AcceptedCall)
      → IsLawful (record exchange { state = state }) (accepted_answer state opening settings (record exchange { state = state }) before after)
  accepted-lawful InIdle true exchange before after = begins exchange.relay (record exchange { state = InIdle }) (λ is peer. (λ set. set, λ set. (is.kept peer set).0))
  accepted-lawful InActive opening exchange before after = changed-lawful exchange after (change_records (family_of settings) before after)
  accepted-lawful state opening exchange before after = stays Kept _ (λ no. absurd no)

  refusal-lawful : (refusal : Option SocketRefusal) (accepted : Answer) (exchange : Exchange) → Left exchange → IsLawful exchange accepted → IsLawful exchange (call_by refusal accepted exchange)
  refusal-lawful None accepted exchange left is = is
  refusal-lawful (Some refusal) accepted exchange left is = stays (SocketRefused refusal) exchange (λ _. left)

  call-lawful : (call : SocketCall) (exchange : Exchange) (history : List AcceptedCall) → Left exchange → IsLawful exchange (call_answer settings exchange history call)
  call-lawful call exchange history left =
      refusal-lawful (refusal_at exchange history call) _ exchange left (accepted-lawful exchange.state (is_opening call) exchange history (with_call exchange.moment call history))

  ignores : (exchange : Exchange) (cause : Ignored) → Left exchange → IsLawful exchange (ignored exchange cause)
  ignores exchange cause left = stays (IgnoredAs cause) exchange (λ _. left)

  advertisement-lawful : (state : GatewayState) (exchange : Exchange) (nonce : ℕ) (relay : Ip) → Left (record exchange { state = state })
      → IsLawful (record exchange { state = state }) (advertisement_answer state settings (record exchange { state = state }) nonce relay)
  advertisement-lawful InDiscovering exchange nonce relay left =
      let at : Exchange = record exchange { state = InDiscovering } in
      cond_both (eqb exchange.nonce nonce) _ _ (IsLawful at)
      (λ _. asks at (requesting (relay_named relay settings.port at)) refl (λ is. record { relay = (_, refl); query = tt; kept = λ peer set. absurd (is.kept peer set).1; request = refl; by = is.by }))
      (λ _. ignores at (Nonce exchange.nonce nonce) left)
  advertisement-lawful state exchange nonce relay left = ignores _ (State 2) left

  -- by whether the Query comes from the relay with the nonce in use, and what it carries
  query-lawful : (one_peer one_nonce : Bool) (reading : Result QueryFields Ignored) (peer : Peer) (sender other : Ignored) (exchange : Exchange) (history : List AcceptedCall) (mac : Mac48) (nonce : ℕ) (seen : Option EndpointValue)
      → let at : Exchange = record exchange { state = InRequesting; relay = Some peer } in
      let answer : Answer = query_by (if not one_peer then Err sender else (if not one_nonce then Err other else reading)) settings at history mac nonce seen in
      Left at → (one_peer ≡ true → one_nonce ≡ true → asked ≡ Some at.nonce → answer.outcome ≡ Active → Good mac nonce) → IsLawful at answer
  query-lawful true true (Ok fields) peer sender other exchange history mac nonce seen left good =
      let at : Exchange = record exchange { state = InRequesting; relay = Some peer } in
      let query : LastQuery = query_kept settings mac nonce seen fields in
      heeds at (query_by (Ok fields) settings at history mac nonce seen) refl (λ no. no) refl (λ is. let by : Good mac nonce = good refl refl is.request refl in record {
        sends = both at.relay _ _ (torn-fit at.query seen at is.by) (update-fit (Some query) (active query at) true (full_records settings (active query at) history) by);
        next = record { relay = (peer, refl); query = (query, refl); kept = λ peer set. ((is.kept peer set).0, tt); request = tt; by = by };
      })
  query-lawful true true (Err cause) peer sender other exchange history mac nonce seen left good = ignores _ cause left
  query-lawful true false reading peer sender other exchange history mac nonce seen left good = ignores _ other left
  query-lawful false one_nonce reading peer sender other exchange history mac nonce seen left good = ignores _ sender left

  asked-lawful : (state : GatewayState) (relay : Option Peer) (exchange : Exchange) (history : List AcceptedCall) (from : Peer) (mac : Mac48) (nonce : ℕ) (inner : List ℕ) (seen : Option EndpointValue)
      → let at : Exchange = record exchange { state = state; relay = relay } in
      let answer : Answer = query_answer settings at history from mac nonce inner seen in
      Left at → (relay ≡ Some from → asked ≡ Some nonce → answer.outcome ≡ Active → Good mac nonce) → IsLawful at answer
  asked-lawful InRequesting (Some peer) exchange history from mac nonce inner seen left good =
      query-lawful (same_peer peer from) (eqb exchange.nonce nonce) (general_query_in settings.v6 inner) peer _ _ exchange history mac nonce seen left
      (λ one same last. good (same_peer-is peer from one) (last ∙ ap (λ (nonce : ℕ). Some nonce) (eqb-true exchange.nonce nonce same)))
  asked-lawful state relay exchange history from mac nonce inner seen left good = ignores _ (State 4) left

  scoped-lawful : (scope wanted : Bool) (exchange : Exchange) (packet : List ℕ) (one other : Ignored) → Left exchange → (scope ≡ true → wanted ≡ true → Given packet)
      → IsLawful exchange (packet_by (if not scope then Some one else (if not wanted then Some other else None)) exchange packet)
  scoped-lawful true true exchange packet one other left given = record {
    later = omega arith;
    refused = λ no. absurd no;
    given = λ other is. let same : packet ≡ other = cc in subst Given same (given refl refl);
    sound = λ is. record { sends = none exchange.relay; next = is };
  }
  scoped-lawful true false exchange packet one other left given = ignores exchange other left
  scoped-lawful false wanted exchange packet one other left given = ignores exchange one left

  -- by whether the packet comes from the relay, and how it begins
  packet-lawful : (one_peer : Bool) (reading : Result Head HeadFault) (sender : Ignored) (exchange : Exchange) (history : List AcceptedCall) (packet : List ℕ) → Left exchange
      → (one_peer ≡ true → (head : Head) → reading ≡ Ok head → is_forwardable head.group ≡ true → wants history head.group head.source ≡ true → Given packet)
      → IsLawful exchange (packet_by (if not one_peer then Some sender else packet_cause history reading) exchange packet)
  packet-lawful true (Ok head) sender exchange history packet left given =
      scoped-lawful (is_forwardable head.group) (wants history head.group head.source) exchange packet (Scope head.group) (NotWanted head.group head.source) left (given refl head refl)
  packet-lawful true (Err fault) sender exchange history packet left given = ignores exchange (NoHead fault) left
  packet-lawful false reading sender exchange history packet left given = ignores exchange sender left

  joined-lawful : (state : GatewayState) (relay : Option Peer) (exchange : Exchange) (history : List AcceptedCall) (from : Peer) (packet : List ℕ)
      → let at : Exchange = record exchange { state = state; relay = relay } in
      Left at → (relay ≡ Some from → (head : Head) → head_of packet ≡ Ok head → is_forwardable head.group ≡ true → wants history head.group head.source ≡ true → Given packet)
      → IsLawful at (packet_answer at history from packet)
  joined-lawful InRequesting (Some peer) exchange history from packet left given = packet-lawful (same_peer peer from) (head_of packet) (Sender peer from) _ history packet left (λ one. given (same_peer-is peer from one))
  joined-lawful InActive (Some peer) exchange history from packet left given = packet-lawful (same_peer peer from) (head_of packet) (Sender peer from) _ history packet left (λ one. given (same_peer-is peer from one))
  joined-lawful state relay exchange history from packet left given = ignores _ (State 6) left

  datagram-lawful : (reading : Result Message Refused) (exchange : Exchange) (history : List AcceptedCall) (from : Peer) → Left exchange
      → IsOwed exchange history from reading (datagram_answer settings exchange history from reading) → IsLawful exchange (datagram_answer settings exchange history from reading)
  datagram-lawful (Ok (Advertisement nonce relay)) exchange history from left owed = advertisement-lawful exchange.state exchange nonce relay left
  datagram-lawful (Ok (Query limited mac nonce inner seen)) exchange history from left owed =
      asked-lawful exchange.state exchange.relay exchange history from mac nonce inner seen left (owed.good limited mac nonce inner seen refl)
  datagram-lawful (Ok (Multicast packet)) exchange history from left owed =
      joined-lawful exchange.state exchange.relay exchange history from packet left (λ sender head. owed.given packet head refl sender)
  datagram-lawful reading exchange history from left owed = stays _ exchange (λ _. left)

  pub event-lawful : (event : GatewayEvent) (exchange : Exchange) (history : List AcceptedCall) → Left exchange
      → ((from : Peer) (bytes : List ℕ) → event ≡ Datagram from bytes → IsOwed exchange history from (message_of bytes) (event_answer settings exchange history event))
      → IsLawful exchange (event_answer settings exchange history event)
  event-lawful (Moment at) exchange history left owed =
      let is = at-lawful (moved at exchange) history in
      let later = is.later in record { later = omega arith; refused = is.refused; given = is.given; sound = is.sound }
  event-lawful (Draws nonce) exchange history left owed =
      heeds exchange (quiet Drawn (with_next_nonce nonce exchange)) refl (λ no. no) refl (λ is. record { sends = none exchange.relay; next = is })
  event-lawful (Datagram from bytes) exchange history left owed = datagram-lawful (message_of bytes) exchange history from left (owed from bytes refl)
  event-lawful (Opens name group filter) exchange history left owed = call-lawful (Open name group filter) exchange history left
  event-lawful (Changes name filter) exchange history left owed = call-lawful (Change name filter) exchange history left
  event-lawful (Closes name) exchange history left owed = call-lawful (Close name) exchange history left
  event-lawful LeavesAll exchange history left owed = call-lawful LeaveAll exchange history left
