-- What the entry that a datagram of a gateway makes at the relay is for one gateway, as it sees the log.
use Rattle.std.proofs.{Common.{◌≡◌, ℕ, ◌+◌, ◌≤◌, Bool, true, false, cond, List, length, reverse, All, Contains, Some, None, Result, Ok, refl, sym, ap, subst, ◌∙◌, arith, inl, inr}, lemmas.{Bool.{cases_Bool, cond-false, cond-true, true≢false}, Map.Views.{tells_apart}}}
use Rattle.amt_values.{specs.{Endpoint.{endpoint_of}, EndpointValue.{EndpointValue}, Group.{is_forwardable}, declared.{address.Ip.{Ip}, mac.Mac48.{Mac48}, peer.Peer.{Peer}}}, proofs.{OnePeer.{one_peer}, Orders.{endpoint_order-exact}}}
use Rattle.amt_messages.specs.{Refusal.{message_of}, declared.message.Message.{Message, TheVariants.{Update, Teardown}}}
use Rattle.response_mac.specs.declared.secret.Secret.{Secret}
use Rattle.source_filter.specs.declared.record.Record.{Record}
use Rattle.endpoint_membership.specs.{EndpointGroup.{same_endpoint}, Log.{brought, on_group, records_at}, declared.change.Change.{Change, TheVariants.{Mark, Reported}}}
use Rattle.gateway_machine.specs.{Answers.{same_peer}, Sends.{octets_of}, Timing.{farewell_ms}}
use Rattle.relay_machine.specs.{Accepted.{entry_of}, Events.{now_of}, Updates.{forwardable_records, report_in}, declared.{event.Event.{Event}, outcome.Unlawful.{Unlawful}, settings.Settings.{Settings}}}
use Rattle.amt_pair.specs.{Entries.{is_change_of}, Schedule.{Upward, delivery_up}, Sent.{Sent, SentReport, report_by as report_as, report_of, report_with}, Setup.{IsPeer}}
use Rattle.amt_pair.proofs.{Alone.{filter_every}, HeardQueries.{same_peer-is, same_peer-itself}, RelaySteps.{IsTornDown, IsUpdated, datagram-entry}, Sights.{Sight, alone_at, brought-seen, report_seen}, SpelledKinds.{same-sent, update-inner}, TunnelEntries.{IsMadeBy, IsPrompt, in_group, made-cleared, made-other, reported-here}, TunnelReports.{IsForwarded}, Upwards.{IsUpward}}

-- endpoints that are told to be one are one

same_endpoint-is : (one other : EndpointValue) → same_endpoint one other ≡ true → one ≡ other
same_endpoint-is one other same = tells_apart endpoint_order-exact one other same

-- ---- the report in such a datagram

-- what was written as an Update carries the report that is read
update-report : (sent : Sent) (written : Message) (for_linux : Bool) (mac : Mac48) (nonce : ℕ) (inner : List ℕ) (records : List Record)
    → ((mac : Mac48) (nonce : ℕ) (inner : List ℕ) → written ≡ Update mac nonce inner → length mac.0 ≡ 6)
    → message_of (octets_of written for_linux) ≡ Ok (Update mac nonce inner) → report_in inner ≡ Ok records → report_with written sent ≡ report_as (Ok records) sent
update-report sent (Update written_mac written_nonce written) for_linux mac nonce inner records six read is =
    let same = update-inner written_mac mac written_nonce nonce written inner (six written_mac written_nonce written refl) read in
    ap (λ (reading : Result (List Record) Unlawful). report_as reading sent) (ap report_in (sym same) ∙ is)
update-report sent other for_linux mac nonce inner records six read is = let kind = same-sent other for_linux (Update mac nonce inner) read in absurd (omega arith)

-- what is read as a Teardown carries none
teardown-report : (sent : Sent) (written : Message) (for_linux : Bool) (mac : Mac48) (nonce : ℕ) (named : EndpointValue) → message_of (octets_of written for_linux) ≡ Ok (Teardown mac nonce named)
    → report_with written sent ≡ None
teardown-report sent (Update other_mac other inner) for_linux mac nonce named read =
    let kind = same-sent (Update other_mac other inner) for_linux (Teardown mac nonce named) read in absurd (omega arith)
teardown-report sent other for_linux mac nonce named read = refl

-- ---- the entry as a gateway sees it

-- The gateway is at the peer, which this endpoint is. It sees all records of its own reports there; of another's report
-- from its peer it sees a moment alone.
pub record IsSightAt (sight : Sight) (peer : Peer) (endpoint : EndpointValue) : Type 0 where
  pub mine : (upward : Upward) → sight.is_from upward ≡ true → upward.from ≡ peer
  pub said : (upward : Upward) (report : SentReport) (at : ℕ) → IsUpward upward → report_seen sight upward ≡ Some report → (group : Ip)
      → records_at (in_group endpoint group) (sight.seen (Reported endpoint report.records at)) ≡ reverse (on_group group report.records)
  pub others : (upward : Upward) (report : SentReport) (at : ℕ) → IsUpward upward → sight.is_from upward ≡ false → upward.from ≡ peer
      → report_of upward.sent ≡ Some report → sight.seen (Reported endpoint (forwardable_records report.records) at) ≡ Mark at

-- a gateway that is alone at its peer sees all
pub alone-sight : (peer : Peer) (endpoint : EndpointValue) → IsSightAt (alone_at peer) peer endpoint
alone-sight peer endpoint = record {
  mine = λ upward from. sym (same_peer-is peer upward.from from);
  said = λ upward report at is_upward found group. reported-here endpoint report.records at group;
  others = λ upward report at is_upward other from found.
      absurd (true≢false (sym (subst (λ (one : Peer). same_peer peer one ≡ true) (sym from) (same_peer-itself peer)) ∙ other));
}

-- the entry is of this moment, and made by the gateway's report or says nothing of its endpoint; where the datagram
-- is in time, the report is
pub record IsEntryOf (sight : Sight) (endpoint : EndpointValue) (sent : List SentReport) (now : ℕ) (upward : Upward) (change : Change) : Type 0 where
  pub made : IsMadeBy endpoint sent (sight.seen change) (report_seen sight upward)
  pub early : brought (sight.seen change) ≤ now
  pub prompt : (sight.is_from upward ≡ true → now ≤ upward.sent.exchange.moment + 60000) → IsPrompt (report_seen sight upward) now

module _ (sight : Sight) (peer : Peer) (endpoint : EndpointValue) (sees : IsSightAt sight peer endpoint) (peer_is : IsPeer peer) (own : endpoint_of peer ≡ Some endpoint)
    (upward : Upward) (is_upward : IsUpward upward) (sent : List SentReport) (now : ℕ) (change : Change) where
  -- the endpoint that is told to be the peer's is of no other
  endpoint-own : (source : EndpointValue) → endpoint_of upward.from ≡ Some source → same_endpoint endpoint source ≡ true → upward.from ≡ peer
  endpoint-own source found same =
      let one = same_endpoint-is endpoint source same in
      one_peer peer upward.from endpoint peer_is.address is_upward.peer.address own (found ∙ ap (λ (other : EndpointValue). Some other) (sym one))

  seen-early : brought change ≤ now → brought (sight.seen change) ≤ now
  seen-early early = subst (λ (at : ℕ). at ≤ now) (sym (brought-seen sight change)) early

  -- an entry that no report of the gateway made, and that says nothing of its endpoint as it sees it
  other-entry : report_seen sight upward ≡ None → brought change ≤ now → IsMadeBy endpoint sent (sight.seen change) None → IsEntryOf sight endpoint sent now upward change
  other-entry none early made = record {
    made = subst (IsMadeBy endpoint sent (sight.seen change)) (sym none) made;
    early = seen-early early;
    prompt = λ in_time. subst (λ by. IsPrompt by now) (sym none) tt;
  }

  -- what is said of others is seen as that, or not at all
  made-seen : IsMadeBy endpoint sent change None → IsMadeBy endpoint sent (sight.seen change) None
  made-seen made = elim (sight.stays change) [
    | inl same ↦ subst (λ (one : Change). IsMadeBy endpoint sent one None) (sym same) made
    | inr mark ↦ subst (λ (one : Change). IsMadeBy endpoint sent one None) (sym mark) (made-other endpoint sent (Mark (brought change)) refl)
  ]

  module _ (updated : IsUpdated (endpoint_of upward.from) (message_of (octets_of upward.sent.sending.message upward.sent.sending.for_linux)) now change) where
    abbrev report : SentReport
    report = record {
      records = updated.records;
      full_report = upward.sent.sending.full_report;
      moment = upward.sent.exchange.moment;
      keep_ms = farewell_ms upward.sent.exchange.query;
      history = upward.sent.history;
    }

    carried : report_of upward.sent ≡ Some report
    carried = update-report upward.sent upward.sent.sending.message upward.sent.sending.for_linux updated.mac updated.nonce updated.inner updated.records is_upward.mac updated.read updated.report

    early : brought change ≤ now
    early = subst (λ (one : Change). brought one ≤ now) (sym updated.is) (omega arith)

    is-at : (source : EndpointValue) → updated.source ≡ source → change ≡ Reported source (forwardable_records updated.records) now
    is-at source same = updated.is ∙ ap (λ (one : EndpointValue). Reported one (forwardable_records updated.records) now) same

    own-entry : sight.is_from upward ≡ true → ((report : SentReport) → report_seen sight upward ≡ Some report → Contains sent report × All IsForwarded report.records)
        → IsEntryOf sight endpoint sent now upward change
    own-entry from known =
        let found : report_seen sight upward ≡ Some report = cond-true (sight.is_from upward) (report_of upward.sent) None from ∙ carried in
        let facts = known report found in
        let source : Some updated.source ≡ Some endpoint = sym updated.found_is ∙ ap endpoint_of (sees.mine upward from) ∙ own in
        let source_is : updated.source ≡ endpoint = cc in
        let is : change ≡ Reported endpoint updated.records now =
        is-at endpoint source_is ∙ ap (λ (records : List Record). Reported endpoint records now) (filter_every (λ one. is_forwardable one.group) updated.records facts.1) in
        record {
          made = subst (IsMadeBy endpoint sent (sight.seen change)) (sym found) (
            facts.0,
            λ group.
                ap (λ (one : Change). records_at (in_group endpoint group) (sight.seen one)) is ∙ sees.said upward report now is_upward found group,
          );
          early = seen-early early;
          prompt = λ in_time. subst (λ by. IsPrompt by now) (sym found) (in_time from);
        }

    others-entry : sight.is_from upward ≡ false → IsEntryOf sight endpoint sent now upward change
    others-entry other =
        other-entry (cond-false (sight.is_from upward) (report_of upward.sent) None other) early (elim (cases_Bool (same_endpoint endpoint updated.source)) [
          | inl same ↦
              let from = endpoint-own updated.source updated.found_is same in
              let is = is-at endpoint (sym (same_endpoint-is endpoint updated.source same)) in
              let mark : sight.seen change ≡ Mark now = ap sight.seen is ∙ sees.others upward report now is_upward other from carried in
              subst (λ (one : Change). IsMadeBy endpoint sent one None) (sym mark) (made-other endpoint sent (Mark now) refl)
          | inr apart ↦ made-seen (made-other endpoint sent change (ap (is_change_of endpoint) updated.is ∙ apart))
        ])

    updated-entry : ((report : SentReport) → report_seen sight upward ≡ Some report → Contains sent report × All IsForwarded report.records)
        → IsEntryOf sight endpoint sent now upward change
    updated-entry known = elim (cases_Bool (sight.is_from upward)) [
      | inl from ↦ own-entry from known
      | inr other ↦ others-entry other
    ]

  no-report : (one : Bool) → report_of upward.sent ≡ None → cond one (report_of upward.sent) None ≡ None
  no-report true none = none
  no-report false none = refl

  torn-entry : IsTornDown (message_of (octets_of upward.sent.sending.message upward.sent.sending.for_linux)) now change → IsEntryOf sight endpoint sent now upward change
  torn-entry torn =
      other-entry (no-report (sight.is_from upward) (teardown-report upward.sent upward.sent.sending.message upward.sent.sending.for_linux torn.mac torn.nonce torn.named torn.read))
      (subst (λ (one : Change). brought one ≤ now) (sym torn.is) (omega arith))
      (made-seen (subst (λ (one : Change). IsMadeBy endpoint sent one None) (sym torn.is) (made-cleared endpoint torn.named sent now)))

-- the entry that a delivery makes
pub delivery-entry : (sight : Sight) (settings : Settings) (first : Secret) (events : List Event) (peer : Peer) (endpoint : EndpointValue) (upward : Upward) (sent : List SentReport) (change : Change)
    → IsSightAt sight peer endpoint → IsPeer peer → endpoint_of peer ≡ Some endpoint → IsUpward upward
    → ((report : SentReport) → report_seen sight upward ≡ Some report → Contains sent report × All IsForwarded report.records)
    → entry_of settings first events (delivery_up upward) ≡ Some change → IsEntryOf sight endpoint sent (now_of events) upward change
delivery-entry sight settings first events peer endpoint upward sent change sees peer_is own is_upward known is =
    elim (datagram-entry settings first events (octets_of upward.sent.sending.message upward.sent.sending.for_linux) upward.from change is) [
      | inl updated ↦ updated-entry sight peer endpoint sees peer_is own upward is_upward sent (now_of events) change updated known
      | inr torn ↦ torn-entry sight peer endpoint sees peer_is own upward is_upward sent (now_of events) change torn
    ]
