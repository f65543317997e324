-- The datagrams that gateways send: from their peers, the MAC of each Update has its six octets, and each report is of the
-- gateway's family.
use Rattle.std.{proofs.{Common.{◌≡◌, ℕ, Bool, true, List, [], ◌∷◌, ◌++◌, flat_map, get_or, length, All, Some, Result, Ok, Err, refl, sym, ap, subst, ◌∙◌}, lemmas.List.Elements.{All-append, All-filter, All-head, All-map, All-nil, All-tail}}, specs.List.{filter}}
use Rattle.amt_values.specs.declared.mac.Mac48.{Mac48}
use Rattle.amt_messages.specs.declared.message.Message.{Message, TheVariants.{Update}}
use Rattle.source_filter.specs.declared.record.Record.{Record}
use Rattle.group_records.specs.{Written.{is_of_family}, declared.family.Family.{Family}}
use Rattle.socket_merge.{specs.FullReport.{family_by}, proofs.RawOctets.{family_is}}
use Rattle.gateway_machine.{specs.{Answers.{history_after}, Laws.{HasAcceptedQuery, IsAuthorized}, Sends.{Sending}, Settings.{HasSourceOfFamily, family_of}, declared.{event.GatewayEvent.{GatewayEvent}, settings.GatewaySettings.{GatewaySettings}}}, proofs.{Authorized.{authorized, reporting}, Lawful.{IsReporting}}}
use Rattle.relay_machine.specs.{Updates.{report_in}, declared.{outcome.Unlawful.{Unlawful}, settings.Settings.{Settings}}}
use Rattle.amt_pair.{specs.{Schedule.{Member, Upward, answer_at, run_of_member, upward_of, upwards_on}, Sent.{Sent, SentReport, report_by, report_of, report_with, sent_on}, Setup.{IsHost, IsPeer}}, proofs.{ReadFamilies.{read-family}, SpelledKinds.{query-mac}}}

-- the record is on a group of the family
abbrev pub IsOnFamily : Bool → Record → Type 0
IsOnFamily v6 one = is_of_family (family_by v6) one.group ≡ true

-- a datagram that a gateway sent
pub record IsUpward (upward : Upward) : Type 0 where
  pub peer : IsPeer upward.from
  pub mac : (mac : Mac48) (nonce : ℕ) (inner : List ℕ) → upward.sent.sending.message ≡ Update mac nonce inner → length mac.0 ≡ 6
  pub family : (report : SentReport) → report_of upward.sent ≡ Some report → All (IsOnFamily upward.v6) report.records

-- ---- the family of a report

some-report : (one other : SentReport) → Some one ≡ Some other → one ≡ other
some-report one other same = cc

read-by : (v6 : Bool) (reading : Result (List Record) Unlawful) (sent : Sent) (report : SentReport) → ((records : List Record) → reading ≡ Ok records → All (IsOnFamily v6) records)
    → report_by reading sent ≡ Some report → All (IsOnFamily v6) report.records
read-by v6 (Err fault) sent report on is = absurd cc
read-by v6 (Ok records) sent report on is = subst (All (IsOnFamily v6)) (ap (λ (one : SentReport). one.records) (some-report _ report is)) (on records refl)

-- a report that comes from the gateway's source is of its family
sent-family : (settings : GatewaySettings) (message : Message) (sent : Sent) (report : SentReport) → HasSourceOfFamily settings → IsReporting settings message
    → report_with message sent ≡ Some report → All (IsOnFamily settings.v6) report.records
sent-family settings (Update mac nonce inner) sent report own reporting is =
    read-by settings.v6 (report_in inner) sent report
    (λ records read. subst (λ (family : Family). All (λ (one : Record). is_of_family family one.group ≡ true) records) (sym (family_is (family_of settings) settings.source own))
    (read-family settings.source reporting.0 records (ap report_in (sym reporting.1) ∙ read))) is
sent-family settings message sent report own reporting is = absurd cc

-- ---- a gateway's step

accepted-mac : (settings : GatewaySettings) (first : ℕ) (events : List GatewayEvent) (mac : Mac48) (nonce : ℕ) → HasAcceptedQuery settings first events mac nonce → length mac.0 ≡ 6
accepted-mac settings first events mac nonce has =
    let query = has.query in query-mac query.limited mac nonce query.inner query.seen query.bytes query.spelled

-- the datagrams of a gateway's step
upwards-of : (settings : Settings) (event : GatewayEvent) (member : Member) → IsHost settings member.host → All IsUpward (upwards_on event member)
upwards-of settings event member host =
    let gateway = member.host.settings in
    let run = run_of_member member in
    let later = member.events ++ event ∷ [] in
    let answer = answer_at member event in
    let sent_as : Sending → Sent = λ sending. record { sending = sending; exchange = answer.next; history = history_after run.exchange run.history event } in
    let upward_as : Sent → Upward = upward_of member.host in
    let one : (sending : Sending) → IsAuthorized gateway member.first later sending → IsReporting gateway sending.message → IsUpward (upward_as (sent_as sending)) = λ sending is reporting. record {
      peer = host.peer;
      mac = λ mac nonce inner same. accepted-mac gateway member.first later mac nonce (is.update mac nonce inner same);
      family = λ report found. sent-family gateway sending.message (sent_as sending) report host.source reporting found;
    } in
    All-map IsUpward upward_as (sent_on gateway run event)
    (All-map (λ (sent : Sent). IsUpward (upward_as sent)) sent_as answer.sends
    (λ k default below. one (get_or answer.sends k default) (authorized gateway member.first member.events event k default below) (reporting gateway member.first member.events event k default below)))

abbrev pub IsHosted : Settings → Member → Type 0
IsHosted settings member = IsHost settings member.host

upwards-all : (settings : Settings) (event : GatewayEvent) (members : List Member) → All (IsHosted settings) members → All IsUpward (flat_map (upwards_on event) members)
upwards-all settings event [] hosts = All-nil IsUpward
upwards-all settings event (member ∷ members) hosts =
    All-append IsUpward (upwards_on event member) (flat_map (upwards_on event) members)
    (upwards-of settings event member (All-head (IsHosted settings) member members hosts))
    (upwards-all settings event members (All-tail (IsHosted settings) member members hosts))

-- all datagrams after an event of gateways
pub upwards-after : (settings : Settings) (event : GatewayEvent) (reaches : Member → Bool) (up : List Upward) (members : List Member) → All (IsHosted settings) members
    → All IsUpward up → All IsUpward (up ++ flat_map (upwards_on event) (filter reaches members))
upwards-after settings event reaches up members hosts all =
    All-append IsUpward up (flat_map (upwards_on event) (filter reaches members)) all
    (upwards-all settings event (filter reaches members) (All-filter reaches (IsHosted settings) members hosts))
