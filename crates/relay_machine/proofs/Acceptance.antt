-- An accepted Update gives its outcome and entry, and no other event gives them; an accepted Teardown likewise.
use Rattle.std.{proofs.Common.{◌≡◌, ℕ, Bool, true, List, Option, Some, None, Result, Ok, Err, if◌then◌else◌, refl, sym, ap, subst, ◌∙◌}, specs.Result.{IfOk}}
use Rattle.amt_values.{specs.{Endpoint.{endpoint_of}, Octets.{AreOctets}, EndpointValue.{EndpointValue}, declared.{mac.Mac48.{Mac48}, peer.Peer.{Peer}}}, proofs.NetworkOrder.{AreOctets-drop}}
use Rattle.amt_messages.{specs.{Refusal.{message_of}, declared.{message.Message.{Message, TheVariants.{Update, Teardown}}, refusal.Refused.{Refused}}}, proofs.{Spelled.{spelled_is_read}, Unrefused.{read_is_spelled}}}
use Rattle.source_filter.specs.declared.record.Record.{Record}
use Rattle.response_mac.{specs.{ResponseMac.{SecretsValue, is_good}, declared.secret.Secret.{Secret}}, proofs.Goodness.{is_good-true}}
use Rattle.endpoint_membership.{specs.{Memberships.{is_live}, Table.{limit_passed, memberships_now}, declared.{change.Change.{Change, TheVariants.{Clear, Reported}}, limits.LimitFault.{LimitFault}}}, proofs.HoldsAfter.{none_where_it_fits}}
use Rattle.relay_machine.specs.declared.{event.Event.{Event, TheVariants.{Moment, Datagram, Packet, Rotate, Limits}}, outcome.{Outcome.TheVariants.{TornDown, Updated}, Unlawful.{Unlawful}}, sends.Step.{Step}}
use Rattle.relay_machine.specs.{declared.settings.Settings.{Settings}, Acceptance.{IsAcceptedTeardown, IsAcceptedUpdate, IsSomeAcceptedTeardown, IsSomeAcceptedUpdate}, Accepted.{accepted_log, change_of, handed_out}}
use Rattle.relay_machine.specs.{Answers.{answer_of, outcome_of}, EventAnswer.{EventAnswer, datagram_answer, entered, limited_answer, teardown_answer, update_answer}, Events.{now_of, secrets_of, settings_at}}
use Rattle.relay_machine.{specs.{Settings.{table_settings_of}, Updates.{forwardable_records, report_in}}, proofs.{Judged.{datagram-judged, packet-judged}, Lawful.{lawful-report_in, report_in-lawful}}}

-- the answer to an Update with a good MAC, a lawful report and within the limits
updated_answer : (settings : Settings) (secrets : SecretsValue) (moment : ℕ) (log : List Change) (octets : List ℕ) (from : Option EndpointValue) (reading : Result Message Refused) (source : EndpointValue) (mac : Mac48) (nonce : ℕ)
    (inner : List ℕ) (records : List Record) → from ≡ Some source → reading ≡ Ok (Update mac nonce inner) → is_good secrets source nonce mac ≡ true → report_in inner ≡ Ok records
    → limit_passed (table_settings_of settings) log source (forwardable_records records) moment ≡ None
    → datagram_answer settings secrets moment log octets from reading ≡ entered Updated (Reported source (forwardable_records records) moment)
updated_answer settings secrets moment log octets from reading source mac nonce inner records comes_from read good lawful none =
    let passed : List Record → Option LimitFault = λ all. limit_passed (table_settings_of settings) log source all moment in
    ap (λ (known : Option EndpointValue). datagram_answer settings secrets moment log octets known reading) comes_from
    ∙ (ap (datagram_answer settings secrets moment log octets (Some source)) read
    ∙ (ap (λ (test : Bool). update_answer test (report_in inner) passed source moment) good
    ∙ (ap (λ (report : Result (List Record) Unlawful). update_answer true report passed source moment) lawful
    ∙ ap (λ (fault : Option LimitFault). limited_answer fault (Reported source (forwardable_records records) moment)) none)))

-- the answer to a Teardown with a good MAC of an endpoint with some group
torn_answer : (settings : Settings) (secrets : SecretsValue) (moment : ℕ) (log : List Change) (octets : List ℕ) (from : Option EndpointValue) (reading : Result Message Refused) (sender : EndpointValue) (mac : Mac48) (nonce : ℕ)
    (named : EndpointValue) → from ≡ Some sender → reading ≡ Ok (Teardown mac nonce named) → is_good secrets named nonce mac ≡ true → is_live named (memberships_now (table_settings_of settings) log) ≡ true
    → datagram_answer settings secrets moment log octets from reading ≡ entered TornDown (Clear named moment)
torn_answer settings secrets moment log octets from reading sender mac nonce named comes_from read good live =
    ap (λ (known : Option EndpointValue). datagram_answer settings secrets moment log octets known reading) comes_from
    ∙ (ap (datagram_answer settings secrets moment log octets (Some sender)) read
    ∙ (ap (λ (test : Bool). teardown_answer test (is_live named (memberships_now (table_settings_of settings) log)) named moment) good
    ∙ ap (λ (test : Bool). teardown_answer true test named moment) live))

-- what an accepted Update comes to, and what is handed out of it
pub outcome-accepted : (settings : Settings) (first : Secret) (events : List Event) (event : Event) (endpoint : EndpointValue) (records : List Record)
    → IsAcceptedUpdate settings first events event endpoint records
    → (outcome_of settings first events event ≡ Updated) × (change_of settings first events event ≡ Some (Reported endpoint (forwardable_records records) (now_of events)))
outcome-accepted settings first events event endpoint records update =
    let log = accepted_log settings first events in
    let whole : answer_of settings first events event ≡ entered Updated (Reported endpoint (forwardable_records records) (now_of events)) =
    ap (answer_of settings first events) update.came
    ∙ updated_answer (settings_at settings events) (secrets_of settings first events) (now_of events) log update.bytes (endpoint_of update.from) (message_of update.bytes) endpoint update.mac update.nonce update.inner records update.source
    (spelled_is_read (Update update.mac update.nonce update.inner) update.bytes update.spelled) ((is_good-true (secrets_of settings first events) endpoint update.nonce update.mac).1 update.good)
    (report_in-lawful update.inner records update.lawful) ((none_where_it_fits (table_settings_of (settings_at settings events)) log endpoint (forwardable_records records) (now_of events)).1 update.fits) in (
      ap (λ (answer : EventAnswer). answer.outcome) whole,
      ap (λ (answer : EventAnswer). handed_out (table_settings_of settings) log answer.entry) whole,
    )

pub outcome-cleared : (settings : Settings) (first : Secret) (events : List Event) (event : Event) (named : EndpointValue)
    → IsAcceptedTeardown settings first events event named
    → (outcome_of settings first events event ≡ TornDown) × (change_of settings first events event ≡ Some (Clear named (now_of events)))
outcome-cleared settings first events event named teardown =
    let log = accepted_log settings first events in
    let whole : answer_of settings first events event ≡ entered TornDown (Clear named (now_of events)) =
    ap (answer_of settings first events) teardown.came
    ∙ torn_answer (settings_at settings events) (secrets_of settings first events) (now_of events) log teardown.bytes (endpoint_of teardown.from) (message_of teardown.bytes) teardown.sender teardown.mac teardown.nonce named teardown.source
    (spelled_is_read (Teardown teardown.mac teardown.nonce named) teardown.bytes teardown.spelled) ((is_good-true (secrets_of settings first events) named teardown.nonce teardown.mac).1 teardown.good)
    teardown.live in (
      ap (λ (answer : EventAnswer). answer.outcome) whole,
      ap (λ (answer : EventAnswer). handed_out (table_settings_of settings) log answer.entry) whole
          ∙ ap (λ (test : Bool). if test then Some (Clear named (now_of events)) else None) teardown.live,
    )

-- what comes as a datagram is octets
abbrev pub AreOctetsIn : Event → Type 0
AreOctetsIn event = (from : Peer) (bytes : List ℕ) → event ≡ Datagram bytes from → AreOctets bytes

-- an event that comes to Updated is an accepted Update
pub accepted-updated : (settings : Settings) (first : Secret) (events : List Event) (event : Event) → AreOctetsIn event
    → outcome_of settings first events event ≡ Updated → IsSomeAcceptedUpdate settings first events event
accepted-updated settings first events (Moment moment) octets same = cc
accepted-updated settings first events (Rotate secret) octets same = cc
accepted-updated settings first events (Limits limits) octets same = cc
accepted-updated settings first events (Packet bytes) octets same =
    absurd ((packet-judged (settings_at settings events) (secrets_of settings first events) (now_of events) (accepted_log settings first events) bytes).updated same)
accepted-updated settings first events (Datagram bytes from) octets same =
    let log = accepted_log settings first events in
    let update = (datagram-judged (settings_at settings events) (secrets_of settings first events) (now_of events) log bytes (endpoint_of from) (message_of bytes)).updated same in
    let spelled = read_is_spelled bytes (Update update.mac update.nonce update.inner) update.read in
    let small : AreOctets update.inner = subst AreOctets (sym spelled.inner_field) (AreOctets-drop 12 bytes (octets from bytes refl)) in (
      update.source,
      update.records,
      record {
        from = from;
        bytes = bytes;
        mac = update.mac;
        nonce = update.nonce;
        inner = update.inner;
        came = refl;
        source = update.comes_from;
        spelled = spelled;
        good = (is_good-true (secrets_of settings first events) update.source update.nonce update.mac).0 update.good;
        lawful = lawful-report_in update.inner update.records small update.lawful;
        fits = (none_where_it_fits (table_settings_of (settings_at settings events)) log update.source (forwardable_records update.records) (now_of events)).0 update.none;
      },
    )

-- one that comes to TornDown is an accepted Teardown
pub accepted-torn : (settings : Settings) (first : Secret) (events : List Event) (event : Event)
    → outcome_of settings first events event ≡ TornDown → IsSomeAcceptedTeardown settings first events event
accepted-torn settings first events (Moment moment) same = cc
accepted-torn settings first events (Rotate secret) same = cc
accepted-torn settings first events (Limits limits) same = cc
accepted-torn settings first events (Packet bytes) same =
    absurd ((packet-judged (settings_at settings events) (secrets_of settings first events) (now_of events) (accepted_log settings first events) bytes).torn same)
accepted-torn settings first events (Datagram bytes from) same =
    let teardown = (datagram-judged (settings_at settings events) (secrets_of settings first events) (now_of events) (accepted_log settings first events) bytes (endpoint_of from) (message_of bytes)).torn same in (
      teardown.named,
      record {
        from = from;
        bytes = bytes;
        sender = teardown.sender;
        mac = teardown.mac;
        nonce = teardown.nonce;
        came = refl;
        source = teardown.comes_from;
        spelled = read_is_spelled bytes (Teardown teardown.mac teardown.nonce teardown.named) teardown.read;
        good = (is_good-true (secrets_of settings first events) teardown.named teardown.nonce teardown.mac).0 teardown.good;
        live = teardown.live;
      },
    )

-- the same by what was answered
pub updated-answered : {E : Type 0} (settings : Settings) (first : Secret) (events : List Event) (event : Event) (endpoint : EndpointValue) (records : List Record) (answer : Result Step E)
    → IfOk answer (λ step. step.outcome ≡ outcome_of settings first events event) → IfOk answer (λ step. step.change ≡ change_of settings first events event)
    → IsAcceptedUpdate settings first events event endpoint records
    → IfOk answer (λ step. (step.outcome ≡ Updated) × (step.change ≡ Some (Reported endpoint (forwardable_records records) (now_of events))))
updated-answered settings first events event endpoint records (Err fault) outcome change update = tt
updated-answered settings first events event endpoint records (Ok step) outcome change update =
    let accepted_as = outcome-accepted settings first events event endpoint records update in (outcome ∙ accepted_as.0, change ∙ accepted_as.1)

pub torn-answered : {E : Type 0} (settings : Settings) (first : Secret) (events : List Event) (event : Event) (named : EndpointValue) (answer : Result Step E)
    → IfOk answer (λ step. step.outcome ≡ outcome_of settings first events event) → IfOk answer (λ step. step.change ≡ change_of settings first events event)
    → IsAcceptedTeardown settings first events event named
    → IfOk answer (λ step. (step.outcome ≡ TornDown) × (step.change ≡ Some (Clear named (now_of events))))
torn-answered settings first events event named (Err fault) outcome change teardown = tt
torn-answered settings first events event named (Ok step) outcome change teardown =
    let cleared_as = outcome-cleared settings first events event named teardown in (outcome ∙ cleared_as.0, change ∙ cleared_as.1)

pub updated_only-answered : {E : Type 0} (settings : Settings) (first : Secret) (events : List Event) (event : Event) (answer : Result Step E) → AreOctetsIn event
    → IfOk answer (λ step. step.outcome ≡ outcome_of settings first events event)
    → IfOk answer (λ step. step.outcome ≡ Updated → IsSomeAcceptedUpdate settings first events event)
updated_only-answered settings first events event (Err fault) octets outcome = tt
updated_only-answered settings first events event (Ok step) octets outcome = λ same. accepted-updated settings first events event octets (sym outcome ∙ same)

pub torn_only-answered : {E : Type 0} (settings : Settings) (first : Secret) (events : List Event) (event : Event) (answer : Result Step E)
    → IfOk answer (λ step. step.outcome ≡ outcome_of settings first events event)
    → IfOk answer (λ step. step.outcome ≡ TornDown → IsSomeAcceptedTeardown settings first events event)
torn_only-answered settings first events event (Err fault) outcome = tt
torn_only-answered settings first events event (Ok step) outcome = λ same. accepted-torn settings first events event (sym outcome ∙ same)
