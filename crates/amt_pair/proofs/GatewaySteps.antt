-- What each step of a gateway leaves: its reports are in order, and the moment is the one that it was told.
use Rattle.std.proofs.{Common.{◌≡◌, ℕ, ◌≤◌, ◌==◌, ◌||◌, ◌⊎◌, max, nat_lt, not, Bool, true, false, List, [], ◌∷◌, ◌++◌, reverse, All, Option, Some, None, Result, Ok, Err, if◌then◌else◌, refl, sym, ap, ap₂, subst, ◌∙◌, append_assoc, arith, inl, inr}, lemmas.{Bool.{cond_both}, List.{reverse-append, Elements.{All-nil, All-weaker}}}}
use Rattle.amt_values.specs.{EndpointValue.{EndpointValue}, declared.{address.Ip.{Ip}, mac.Mac48.{Mac48}, peer.Peer.{Peer}}}
use Rattle.amt_messages.specs.{Refusal.{message_of}, declared.{message.Message.{Message, TheVariants.{Advertisement, Query, Multicast}}, refusal.Refused.{Refused}}}
use Rattle.source_filter.specs.{declared.query.QueryFields.{QueryFields}, declared.record.Record.{Record}}
use Rattle.group_records.specs.declared.family.Family.{Family}
use Rattle.endpoint_membership.specs.Log.{on_group}
use Rattle.socket_merge.specs.{Changes.{change_records}, FullReport.{is_quiet}, History.{AcceptedCall, Change, Close, LeaveAll, Open, SocketCall, latest, with_call}, Interface.{interface}}
use Rattle.gateway_machine.specs.Answers.{Answer, accepted_answer, advertisement_answer, answer_at as answer_to_moment, ask, asked_relay, begin_with, call_by, cause_heard, changed_answer, datagram_answer, due_answer, event_answer, fields_heard, history_after, if_accepted, is_idle, is_opening, joined_relay, packet_by, query_accepted, query_by, query_kept, quiet, refusal_at, same_peer}
use Rattle.gateway_machine.specs.{Exchange.{active, moved, relay_named, requesting, retried, with_next_nonce}, General.{general_query_in}, Laws.{HasQuery, HasRelay}, Reports.{full_records, full_report, teardown, update}, Runs.{Run, run_of}, Settings.{HasSourceOfFamily, family_of}, Timing.{farewell_ms, last_lifetime, lifetime_of}}
use Rattle.gateway_machine.specs.declared.{event.GatewayEvent.{GatewayEvent, TheVariants.{Moment, Nonce as Draws, Datagram, Open as Opens, Change as GetsFilter, Close as Closes, LeaveAll as LeavesAll}}, exchange.{Exchange.{Exchange}, GatewayState.{GatewayState, TheVariants.{Idle as InIdle, Discovering as InDiscovering, Requesting as InRequesting, Active as InActive}}, LastQuery.{LastQuery}}}
use Rattle.gateway_machine.{specs.declared.{outcome.{GatewayOutcome.{GatewayOutcome, TheVariants.{Drawn}}, Ignored.{Ignored}, SocketRefusal.{SocketRefusal}}, settings.GatewaySettings.{GatewaySettings}}, proofs.{Runs.{run_of-append, run_of-nil}, SoundRuns.{run-sound}}}
use Rattle.amt_pair.{specs.{Events.{MayHappen}, Sent.{SentReport}}, proofs.{Courses.{later_by}, Histories.{IsHistoryOf, IsHistoryOf-next, IsHistoryOf-none, MayCall}, ReportedAddresses.{MayStand}, ReportedRecords.{changed-is, changed-some, full-is, unchanged}}}
use Rattle.amt_pair.proofs.StepReports.{MayBeSent, changed-may_be_sent, full-may_be_sent, reported, reports-append, reports-request, reports-teardown, reports-update, reports_in, send-is}
use Rattle.amt_pair.proofs.{Tunnel.{Tunnel, is_active, keep_of, report_now, reports_on, see}, TunnelReports.{IsForwarded, IsOrderly, orderly-asked, orderly-changed, orderly-kept, orderly-later}}

-- a Query that comes with the event states this lifetime
abbrev pub States : ℕ → GatewaySettings → GatewayEvent → Type 0
States lifetime settings (Datagram from bytes) =
    (limited : Bool) (mac : Mac48) (nonce : ℕ) (inner : List ℕ) (seen : Option EndpointValue) (fields : QueryFields)
    → message_of bytes ≡ Ok (Query limited mac nonce inner seen) → general_query_in settings.v6 inner ≡ Ok fields → lifetime_of (family_of settings) fields ≡ lifetime
States lifetime settings event = Unit {0}

-- the moment that an event reports to a gateway, if it reports one
abbrev pub moment_passed : GatewayEvent → Option ℕ
moment_passed (Moment at) = Some at
moment_passed event = None

abbrev IsKnown : Option Peer → Type 0
IsKnown relay = (peer : Peer) × (relay ≡ Some peer)

-- the tunnel after an answer
abbrev after_answer : Answer → List AcceptedCall → List SentReport → Tunnel
after_answer answer history reports = see answer.next history (reverse (reports_in answer.next history answer.sends) ++ reports)

-- ---- answers without a report

-- the answer keeps the moment and the query, sends no report, and leaves the gateway Active only where it was
record IsSilent (exchange : Exchange) (answer : Answer) : Type 0 where
  moment : answer.next.moment ≡ exchange.moment
  query : answer.next.query ≡ exchange.query
  none : (history : List AcceptedCall) → reports_in answer.next history answer.sends ≡ []
  leaves : is_active answer.next.state ≡ true → is_active exchange.state ≡ true

silent-quiet : (outcome : GatewayOutcome) (exchange : Exchange) → IsSilent exchange (quiet outcome exchange)
silent-quiet outcome exchange = record { moment = refl; query = refl; none = λ history. refl; leaves = λ was. was }

silent-ask : (settings : GatewaySettings) (exchange next : Exchange) → next.moment ≡ exchange.moment → next.query ≡ exchange.query
    → (is_active next.state ≡ true → is_active exchange.state ≡ true) → IsSilent exchange (ask settings next)
silent-ask settings exchange next moment query leaves =
    record { moment = moment; query = query; none = λ history. reports-request next history next.relay settings next.nonce; leaves = leaves }

module _ (settings : GatewaySettings) (exchange : Exchange) where
  silent-request : IsSilent exchange (ask settings (requesting exchange))
  silent-request = silent-ask settings exchange (requesting exchange) refl refl (λ was. absurd cc)

  silent-begin : (relay : Option Peer) → IsSilent exchange (begin_with relay settings exchange)
  silent-begin None = record { moment = refl; query = refl; none = λ history. refl; leaves = λ was. absurd cc }
  silent-begin (Some relay) = silent-request

  silent-due : (state : GatewayState) → IsSilent exchange (due_answer state settings exchange)
  silent-due InIdle = silent-quiet _ exchange
  silent-due InDiscovering = record { moment = refl; query = refl; none = λ history. refl; leaves = λ was. was }
  silent-due InRequesting =
      cond_both (nat_lt exchange.tries 5) _ _ (IsSilent exchange) (λ _. silent-ask settings exchange (retried exchange) refl refl (λ was. was)) (λ _. silent-begin settings.relay)
  silent-due InActive = silent-request

  silent-at : (history : List AcceptedCall) → IsSilent exchange (answer_to_moment settings exchange history)
  silent-at history =
      cond_both (nat_lt exchange.moment exchange.due_ms || is_idle exchange.state) _ _ (IsSilent exchange) (λ _. silent-quiet _ exchange)
      (λ _. cond_both (is_quiet history exchange.moment (farewell_ms exchange.query)) _ _ (IsSilent exchange)
      (λ _. record { moment = refl; query = refl; none = λ _. refl; leaves = λ was. absurd cc }) (λ _. silent-due exchange.state))

  silent-advertisement : (state : GatewayState) (nonce : ℕ) (relay : Ip) → IsSilent exchange (advertisement_answer state settings exchange nonce relay)
  silent-advertisement InDiscovering nonce relay =
      cond_both (exchange.nonce == nonce) _ _ (IsSilent exchange)
      (λ _. silent-ask settings exchange (requesting (relay_named relay settings.port exchange)) refl refl (λ was. absurd cc)) (λ _. silent-quiet _ exchange)
  silent-advertisement state nonce relay = silent-quiet _ exchange

silent-packet : (cause : Option Ignored) (exchange : Exchange) (packet : List ℕ) → IsSilent exchange (packet_by cause exchange packet)
silent-packet (Some cause) exchange packet = silent-quiet _ exchange
silent-packet None exchange packet = record { moment = refl; query = refl; none = λ history. refl; leaves = λ was. was }

-- ---- a Query that is heard is read so

fields-by : (one_peer one_nonce : Bool) (sender other_nonce : Ignored) (reading : Result QueryFields Ignored) (fields : QueryFields)
    → (if not one_peer then Err sender else (if not one_nonce then Err other_nonce else reading)) ≡ Ok fields → reading ≡ Ok fields
fields-by true true sender other_nonce reading fields is = is
fields-by true false sender other_nonce reading fields is = absurd cc
fields-by false one_nonce sender other_nonce reading fields is = absurd cc

heard-fields : (known : Option Peer) (v6 : Bool) (exchange : Exchange) (from : Peer) (nonce : ℕ) (inner : List ℕ) (fields : QueryFields)
    → fields_heard known v6 exchange from nonce inner ≡ Ok fields → general_query_in v6 inner ≡ Ok fields
heard-fields None v6 exchange from nonce inner fields is = absurd cc
heard-fields (Some relay) v6 exchange from nonce inner fields is =
    fields-by (same_peer relay from) (exchange.nonce == nonce) _ _ (general_query_in v6 inner) fields is

-- and comes from a relay that is known
heard-known : (state : GatewayState) (relay : Option Peer) (v6 : Bool) (exchange : Exchange) (from : Peer) (nonce : ℕ) (inner : List ℕ) (fields : QueryFields)
    → fields_heard (asked_relay state relay) v6 exchange from nonce inner ≡ Ok fields → HasRelay state relay → IsKnown relay
heard-known InRequesting relay v6 exchange from nonce inner fields is known = known
heard-known state relay v6 exchange from nonce inner fields is known = absurd cc

forwarded : (family : Family) (records : List Record) → MayBeSent family records → All IsForwarded records
forwarded family records may = All-weaker (MayStand family) IsForwarded (λ one is. is.forwarded) records may.each

-- ---- a gateway whose reports are in order

module _ (OfRelay : Type 0) (lifetime : ℕ) (settings : GatewaySettings) where
  -- the history is one that it may have, the reports are in order, and it has become this moment
  pub record IsTelling (moment : ℕ) (exchange : Exchange) (history : List AcceptedCall) (reports : List SentReport) : Type 0 where
    pub of : IsHistoryOf (family_of settings) history
    pub moment_is : exchange.moment ≡ moment
    pub orderly : IsOrderly OfRelay lifetime (see exchange history reports)

  -- so it is after an answer
  abbrev IsToldBy : ℕ → Answer → List AcceptedCall → List SentReport → Type 0
  IsToldBy moment answer history reports = IsTelling moment answer.next history (reverse (reports_in answer.next history answer.sends) ++ reports)

  silent-told : (moment : ℕ) (exchange : Exchange) (answer : Answer) (history : List AcceptedCall) (reports : List SentReport) → IsSilent exchange answer
      → IsTelling moment exchange history reports → IsToldBy moment answer history reports
  silent-told moment exchange answer history reports silent telling =
      let lifetime_is = ap last_lifetime silent.query in
      let sent = ap (λ (found : List SentReport). reverse found ++ reports) (silent.none history) in
      let same : after_answer answer history reports ≡ record (see exchange history reports) { is_active = is_active answer.next.state } =
      λ i. record { moment = silent.moment i; is_active = is_active answer.next.state; lifetime = lifetime_is i; history = history; sent = sent i } in
      record {
        of = telling.of;
        moment_is = silent.moment ∙ telling.moment_is;
        orderly = subst (IsOrderly OfRelay lifetime) (sym same)
            (orderly-later OfRelay lifetime (see exchange history reports) exchange.moment (is_active answer.next.state) (omega arith) silent.leaves telling.orderly);
      }

  module _ (own : HasSourceOfFamily settings) (moment : ℕ) (exchange : Exchange) (history : List AcceptedCall) (reports : List SentReport)
      (telling : IsTelling moment exchange history reports) (relay : HasRelay exchange.state exchange.relay) (query : HasQuery exchange.state exchange.query) where
    quiet-told : (answer : Answer) → IsSilent exchange answer → IsToldBy moment answer history reports
    quiet-told answer silent = silent-told moment exchange answer history reports silent telling

    moment-told : (at : ℕ) → IsToldBy (max moment at) (answer_to_moment settings (moved at exchange) history) history reports
    moment-told at = silent-told (max moment at) (moved at exchange) _ history reports (silent-at settings (moved at exchange) history) (record {
      of = telling.of;
      moment_is = ap (λ (now : ℕ). max now at) telling.moment_is;
      orderly = orderly-later OfRelay lifetime (see exchange history reports) (max exchange.moment at) (is_active exchange.state) (omega arith) (λ was. was) telling.orderly;
    })

    -- ---- a datagram

    query-told : (query : LastQuery) → IsKnown exchange.relay → (OfRelay → query.lifetime_ms ≡ lifetime)
        → IsToldBy moment (query_accepted settings exchange history query) history reports
    query-told query known stated =
        let next = active query exchange in
        let records = full_records settings next history in
        let gone = teardown exchange.query query.seen exchange in
        let report = full_report settings next history in
        let may = full-may_be_sent settings next history telling.of telling.orderly.settled.calls in
        let sent =
        reports-append next history gone report
        ∙ ap₂ (λ (none found : List SentReport). none ++ found) (reports-teardown next history exchange.query query.seen exchange)
        (reports-update next history settings true records own known (query, refl) may) in
        record {
          of = telling.of;
          moment_is = telling.moment_is;
          orderly = subst (IsOrderly OfRelay lifetime)
              (send-is next history reports true records ∙ ap (λ (found : List SentReport). see next history (reverse found ++ reports)) (sym sent))
              (orderly-asked OfRelay lifetime (see exchange history reports) query.lifetime_ms records stated
              (full-is (family_of settings) history exchange.moment (keep_of query.lifetime_ms) telling.of) (forwarded (family_of settings) records may) telling.orderly);
        }

    heard-told : (heard : Result QueryFields Ignored) (mac : Mac48) (nonce : ℕ) (seen : Option EndpointValue)
        → ((fields : QueryFields) → heard ≡ Ok fields → IsKnown exchange.relay × (OfRelay → lifetime_of (family_of settings) fields ≡ lifetime))
        → IsToldBy moment (query_by heard settings exchange history mac nonce seen) history reports
    heard-told (Err cause) mac nonce seen states = telling
    heard-told (Ok fields) mac nonce seen states = let both = states fields refl in query-told (query_kept settings mac nonce seen fields) both.0 both.1

    datagram-told : (reading : Result Message Refused) (from : Peer)
        → ((limited : Bool) (mac : Mac48) (nonce : ℕ) (inner : List ℕ) (seen : Option EndpointValue) (fields : QueryFields)
        → reading ≡ Ok (Query limited mac nonce inner seen) → general_query_in settings.v6 inner ≡ Ok fields → OfRelay → lifetime_of (family_of settings) fields ≡ lifetime)
        → IsToldBy moment (datagram_answer settings exchange history from reading) history reports
    datagram-told (Ok (Advertisement nonce relay)) from states =
        quiet-told _ (silent-advertisement settings exchange exchange.state nonce relay)
    datagram-told (Ok (Query limited mac nonce inner seen)) from states =
        let known = asked_relay exchange.state exchange.relay in
        heard-told (fields_heard known settings.v6 exchange from nonce inner) mac nonce seen
        (λ fields is. (
          heard-known exchange.state exchange.relay settings.v6 exchange from nonce inner fields is relay,
          states limited mac nonce inner seen fields refl (heard-fields known settings.v6 exchange from nonce inner fields is),
        ))
    datagram-told (Ok (Multicast packet)) from states =
        quiet-told _ (silent-packet (cause_heard (joined_relay exchange.state exchange.relay) history from packet) exchange packet)
    datagram-told (Ok message) from states = telling
    datagram-told (Err refusal) from states = telling

    -- ---- a socket call

    module _ (call : SocketCall) (may : MayCall (family_of settings) call) where
      abbrev after : List AcceptedCall
      after = with_call exchange.moment call history

      module _ (of : IsHistoryOf (family_of settings) after) where
        kept : (is_active exchange.state ≡ false) ⊎ ((group : Ip) → interface history group ≡ interface after group) → IsTelling moment exchange after reports
        kept same =
            record { of = of; moment_is = telling.moment_is; orderly = orderly-kept OfRelay lifetime (see exchange history reports) call same telling.orderly }

        changed-told : (records : List Record) → change_records (family_of settings) history after ≡ records → exchange.state ≡ InActive
            → IsToldBy moment (changed_answer settings exchange after records) after reports
        changed-told [] are active = kept (inr (unchanged (family_of settings) _ history of telling.of are))
        changed-told (first ∷ more) are active =
            let family = family_of settings in
            let records = first ∷ more in
            let full = full_records settings exchange after in
            let known = subst (λ (state : GatewayState). HasRelay state exchange.relay) active relay in
            let last = subst (λ (state : GatewayState). HasQuery state exchange.query) active query in
            let earlier = telling.orderly.settled.calls in
            let early : latest after ≤ exchange.moment = omega arith in
            let these = subst (MayBeSent family) are (changed-may_be_sent family _ history of telling.of) in
            let those = full-may_be_sent settings exchange after of early in
            let one = report_now (see exchange after reports) false records in
            let other = reported exchange after true full in
            let sent =
            reports-append exchange after (update settings exchange false records) (full_report settings exchange after)
            ∙ ap₂ (λ (found more : List SentReport). found ++ more) (reports-update exchange after settings false records own known last these)
            (reports-update exchange after settings true full own known last those) in
            record {
              of = of;
              moment_is = telling.moment_is;
              orderly = subst (IsOrderly OfRelay lifetime)
                  (send-is exchange after (one ∷ reports) true full
                  ∙ ap (see exchange after) (sym (append_assoc (reverse other) (one ∷ []) reports))
                  ∙ ap (λ (found : List SentReport). see exchange after (found ++ reports)) (sym (reverse-append (one ∷ []) other))
                  ∙ ap (λ (found : List SentReport). see exchange after (reverse found ++ reports)) (sym sent))
                  (orderly-changed OfRelay lifetime (see exchange history reports) call first more full (ap is_active active)
                  (λ group. ap (on_group group) (sym are) ∙ changed-is family _ history of group) (full-is family after exchange.moment (farewell_ms exchange.query) of)
                  (changed-some family history after first more are) (forwarded family records these) (forwarded family full those) telling.orderly);
            }

        accepted-told : (state : GatewayState) (opening : Bool) → exchange.state ≡ state
            → IsToldBy moment (accepted_answer state opening settings exchange history after) after reports
        accepted-told InActive opening is = changed-told (change_records (family_of settings) history after) refl is
        accepted-told InIdle true is = silent-told moment exchange _ after reports (silent-begin settings exchange exchange.relay) (kept (inl (ap is_active is)))
        accepted-told state opening is = kept (inl (ap is_active is))

      call-told : (refusal : Option SocketRefusal) → refusal_at exchange history call ≡ refusal
          → IsToldBy moment (call_by refusal (accepted_answer exchange.state (is_opening call) settings exchange history after) exchange) (if_accepted refusal history after) reports
      call-told None none = accepted-told (IsHistoryOf-next (family_of settings) exchange.moment call history may none telling.of) exchange.state (is_opening call) refl
      call-told (Some refusal) none = telling

    -- ---- each event

    told : (event : GatewayEvent) → MayHappen settings event → (OfRelay → States lifetime settings event)
        → IsToldBy (later_by (moment_passed event) moment) (event_answer settings exchange history event) (history_after exchange history event) reports
    told (Moment at) may states = moment-told at
    told (Draws nonce) may states =
        quiet-told (quiet Drawn (with_next_nonce nonce exchange)) (record { moment = refl; query = refl; none = λ history. refl; leaves = λ was. was })
    told (Datagram from bytes) may states =
        datagram-told (message_of bytes) from (λ limited mac nonce inner seen fields read general relay. states relay limited mac nonce inner seen fields read general)
    told (Opens name group filter) may states =
        call-told (Open name group filter) (record { forwarded = may.may_come.0; own = may.may_come.1 }, record { is = may.is; own = may.may_come.2.family }) (refusal_at exchange history (Open name group filter)) refl
    told (GetsFilter name filter) may states = call-told (Change name filter) (record { is = may.is; own = may.may_come.family }) (refusal_at exchange history (Change name filter)) refl
    told (Closes name) may states = call-told (Close name) tt (refusal_at exchange history (Close name)) refl
    told LeavesAll may states = call-told LeaveAll tt (refusal_at exchange history LeaveAll) refl

  -- ---- runs

  module _ (first : ℕ) where
    -- the run tells this, and has come to the moment
    abbrev pub IsRun : ℕ → List GatewayEvent → List SentReport → Type 0
    IsRun moment events reports = IsTelling moment (run_of settings first events).exchange (run_of settings first events).history reports

    pub run-start : IsRun 0 [] []
    run-start = subst (λ (run : Run). IsTelling 0 run.exchange run.history []) (sym (run_of-nil settings first)) (record {
      of = IsHistoryOf-none (family_of settings);
      moment_is = refl;
      orderly = record { settled = record { calls = omega arith; active = λ relay on. absurd cc; reports = All-nil _; farewells = tt }; newest = tt };
    })

    pub run-next : HasSourceOfFamily settings → (moment : ℕ) (events : List GatewayEvent) (event : GatewayEvent) (reports : List SentReport) → MayHappen settings event
        → (OfRelay → States lifetime settings event) → IsRun moment events reports
        → IsRun (later_by (moment_passed event) moment) (events ++ event ∷ []) (reports_on settings (run_of settings first events) event ++ reports)
    run-next own moment events event reports may states run =
        let before = run_of settings first events in
        subst (λ (one : Run). IsTelling (later_by (moment_passed event) moment) one.exchange one.history (reports_on settings before event ++ reports))
        (sym (run_of-append settings first events event))
        (told own moment before.exchange before.history reports run (run-sound settings first events).relay (run-sound settings first events).query event may states)
