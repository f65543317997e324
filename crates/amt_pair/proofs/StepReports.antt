-- The reports among what a gateway sends with an event.
use Rattle.std.{proofs.{Common.{◌≡◌, ℕ, ◌≤◌, Bool, true, false, List, [], ◌∷◌, ◌++◌, map, reverse, Option, Some, None, Ok, refl, ap, subst, ◌∙◌, arith}, lemmas.List.{map-append, Elements.{filter_map-append}}}, specs.List.{All, filter_map}}
use Rattle.amt_values.specs.{EndpointValue.{EndpointValue}, declared.{mac.Mac48.{Mac48}, peer.Peer.{Peer}}}
use Rattle.amt_messages.specs.declared.message.Message.TheVariants.{Teardown}
use Rattle.source_filter.specs.declared.record.Record.{Record}
use Rattle.group_records.specs.{Written.{report_length}, declared.family.Family.{Family}}
use Rattle.socket_merge.{specs.{Changes.{change_records}, History.{AcceptedCall, latest, open_sockets}}, proofs.{Changed.{changes-are}, Reports.{full-within_raw}, ShortChanges.{short-changes}}}
use Rattle.gateway_machine.specs.{Reports.{full_records, report_datagram, same_endpoint, teardown, teardown_by, teardown_if, update}, Sends.{Sending, request_to, to_relay}, Settings.{HasSourceOfFamily, family_of}, Timing.{farewell_ms}, declared.{exchange.{Exchange.{Exchange}, LastQuery.{LastQuery}}, settings.GatewaySettings.{GatewaySettings}}}
use Rattle.relay_machine.specs.Updates.{report_in}
use Rattle.amt_pair.{specs.Sent.{Sent, SentReport, report_of}, proofs.{Histories.{IsHistoryOf}, ReadReports.{report_in-report_datagram}, ReportedAddresses.{MayStand, changed-may_stand, full-may_stand}, Tunnel.{see, send}}}

-- the reports among these messages, in order, by the exchange and the socket calls after the event
abbrev pub reports_in : Exchange → List AcceptedCall → List Sending → List SentReport
reports_in exchange history sends =
    filter_map report_of (map (λ sending. record { sending = sending; exchange = exchange; history = history }) sends)

-- the report of these records; none are not sent
abbrev pub reported : Exchange → List AcceptedCall → Bool → List Record → List SentReport
reported exchange history full [] = []
reported exchange history full (first ∷ more) =
    record {
      records = first ∷ more;
      full_report = full;
      moment = exchange.moment;
      keep_ms = farewell_ms exchange.query;
      history = history;
    }
    ∷ []

-- the records may be sent in one report of the family
pub record MayBeSent (family : Family) (records : List Record) : Type 0 where
  pub each : All (MayStand family) records
  pub short : report_length family records ≤ 1400

-- ---- which records are sent

-- the change records of a call
pub changed-may_be_sent : (family : Family) (newest : AcceptedCall) (older : List AcceptedCall) → IsHistoryOf family (newest ∷ older) → IsHistoryOf family older
    → MayBeSent family (change_records family older (newest ∷ older))
changed-may_be_sent family newest older now then = record {
  each = changed-may_stand family (newest ∷ older) older now then;
  short = subst (λ (records : List Record). report_length family records ≤ 1400) (changes-are family older (newest ∷ []))
      (short-changes family older (open_sockets (newest ∷ older)) then.lawful now.lawful.limits.sources (record { call = newest.call; made = refl }));
}

-- the full records. A moment before the newest call is left out: farewells last at it of which the raw report
-- has none
pub full-may_be_sent : (settings : GatewaySettings) (exchange : Exchange) (history : List AcceptedCall) → IsHistoryOf (family_of settings) history → latest history ≤ exchange.moment
    → MayBeSent (family_of settings) (full_records settings exchange history)
full-may_be_sent settings exchange history is early =
    let family = family_of settings in
    let keep = farewell_ms exchange.query in
    record {
      each = full-may_stand family history exchange.moment keep is;
      short = omega (arith, full-within_raw family history exchange.moment keep early, is.lawful.limits.octets family);
    }

-- ---- what is read of an Update

read-back : (settings : GatewaySettings) (records : List Record) → HasSourceOfFamily settings → MayBeSent (family_of settings) records
    → report_in (report_datagram settings.source records) ≡ Ok records
read-back settings records own may =
    report_in-report_datagram (family_of settings) settings.source records own (λ k one below. (may.each k one below).own) (λ k one below. (may.each k one below).fit) may.short

module _ (exchange : Exchange) (history : List AcceptedCall) where
  -- two lists of messages
  pub reports-append : (sends more : List Sending) → reports_in exchange history (sends ++ more) ≡ reports_in exchange history sends ++ reports_in exchange history more
  reports-append sends more =
      let sent : Sending → Sent = λ sending. record { sending = sending; exchange = exchange; history = history } in
      ap (filter_map report_of) (map-append sent sends more) ∙ filter_map-append report_of (map sent sends) (map sent more)

  -- an Update is read back as the report of its records
  pub reports-update : (settings : GatewaySettings) (full : Bool) (records : List Record) → HasSourceOfFamily settings → (peer : Peer) × (exchange.relay ≡ Some peer)
      → (query : LastQuery) × (exchange.query ≡ Some query) → MayBeSent (family_of settings) records
      → reports_in exchange history (update settings exchange full records) ≡ reported exchange history full records
  reports-update settings full [] own known kept may = rw kept.1 refl
  reports-update settings full (first ∷ more) own known kept may = rw (kept.1, known.1, read-back settings (first ∷ more) own may) refl

  -- ---- messages without a report

  pub reports-request : (relay : Option Peer) (settings : GatewaySettings) (nonce : ℕ) → reports_in exchange history (request_to relay settings nonce) ≡ []
  reports-request None settings nonce = refl
  reports-request (Some relay) settings nonce = refl

  reports-torn_down : (relay : Option Peer) (mac : Mac48) (nonce : ℕ) (before : EndpointValue) → reports_in exchange history (to_relay relay false (Teardown mac nonce before)) ≡ []
  reports-torn_down None mac nonce before = refl
  reports-torn_down (Some relay) mac nonce before = refl

  reports-teardown_if : (same : Bool) (earlier : Exchange) (last : LastQuery) (before : EndpointValue) → reports_in exchange history (teardown_if same earlier last before) ≡ []
  reports-teardown_if true earlier last before = refl
  reports-teardown_if false earlier last before = reports-torn_down earlier.relay last.mac last.nonce before

  reports-teardown_by : (before seen : Option EndpointValue) (earlier : Exchange) (last : LastQuery) → reports_in exchange history (teardown_by before seen earlier last) ≡ []
  reports-teardown_by None seen earlier last = refl
  reports-teardown_by (Some before) None earlier last = refl
  reports-teardown_by (Some before) (Some seen) earlier last = reports-teardown_if (same_endpoint before seen) earlier last before

  pub reports-teardown : (query : Option LastQuery) (seen : Option EndpointValue) (earlier : Exchange) → reports_in exchange history (teardown query seen earlier) ≡ []
  reports-teardown None seen earlier = refl
  reports-teardown (Some last) seen earlier = reports-teardown_by last.seen seen earlier last

  -- a tunnel that sends these records
  pub send-is : (reports : List SentReport) (full : Bool) (records : List Record)
      → send (see exchange history reports) full records ≡ see exchange history (reverse (reported exchange history full records) ++ reports)
  send-is reports full [] = refl
  send-is reports full (first ∷ more) = refl
