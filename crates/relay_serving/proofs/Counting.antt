-- What one event more adds to the counts of a run, and how large they are.
use Rattle.std.{proofs.{Common.{◌≡◌, ◌≤◌, ℕ, ◌+◌, Bool, true, false, List, [], ◌∷◌, ◌++◌, length, map, refl, sym, ap, subst, ◌∙◌, arith}, lemmas.List.{length-map, Sums.{count_by-le-length}}}, specs.Prelude.{Option, Some, None, Result, Ok, Err, count_by}}
use Rattle.amt_values.specs.{Endpoint.{endpoint_of}, EndpointValue.{EndpointValue}, declared.peer.Peer.{Peer}}
use Rattle.amt_messages.specs.{declared.{message.Message.{Message, TheVariants.{Discovery, Advertisement, Request, Query, Update, Multicast, Teardown}}, refusal.Refused.{Refused}}, Refusal.{message_of}}
use Rattle.response_mac.specs.{declared.secret.Secret.{Secret}, ResponseMac.{SecretsValue, is_good}}
use Rattle.source_filter.specs.declared.record.Record.{Record}
use Rattle.endpoint_membership.specs.{Memberships.{is_live}, Table.{limit_passed, memberships_now}, declared.{change.Change.{Change}, limits.LimitFault.{LimitFault}}}
use Rattle.relay_machine.specs.{declared.{event.Event.{Event, TheVariants.{Datagram, Rotate}}, outcome.{Outcome.{Outcome, TheVariants.{Rotated}}, Unlawful.{Unlawful}}, sends.OneSend.{OneSend}, settings.Settings.{Settings}}, Accepted.{accepted_log}, Answers.{outcome_of, sends_of}}
use Rattle.relay_machine.{specs.{Courses.{each_after, is_torn, is_updated, outcomes_of}, EventAnswer.{EventAnswer, datagram_answer, limited_answer, message_answer, teardown_answer, update_answer}, Events.{now_of, secrets_of, settings_at}, Settings.{table_settings_of}, Updates.{forwardable_records, report_in}}, proofs.Courses.{each_more, sum_more}}
use Rattle.amt_ports.specs.Devices.{LinkSeen}
use Rattle.replication_workers.specs.Replication.{to_peer}
use Rattle.relay_serving.specs.{Counting.{CountsAlike, HasAnswered, IsCounted, is_datagram, is_packet, no_counts, one_if, with_late, with_outcome}, Happenings.{Happening, events_among}, declared.counts.Counts.{Counts}}

pub count_more : {X : Type 0} (test : X → Bool) (xs : List X) (x : X) → count_by test (xs ++ x ∷ []) ≡ count_by test xs + one_if (test x)
count_more {X} test xs x = sum_more (λ (one : X). one_if (test one)) xs x

-- each event is answered once
pub length-each_after : {E A : Type 0} (answer : List E → E → A) (before events : List E) → length (each_after answer before events) ≡ length events
length-each_after answer before [] = refl
length-each_after answer before (event ∷ rest) = let later = length-each_after answer (before ++ event ∷ []) rest in omega (arith, later)

-- counted among the outcomes up to this event's
counted_more : (test : Outcome → Bool) (settings : Settings) (first : Secret) (events : List Event) (event : Event) (count : ℕ) → count ≡ count_by test (outcomes_of settings first events)
    → count + one_if (test (outcome_of settings first events event)) ≡ count_by test (outcomes_of settings first (events ++ event ∷ []))
counted_more test settings first events event count is =
    let outcome = outcome_of settings first events event in
    ap (λ (number : ℕ). number + one_if (test outcome)) is
    ∙ (sym (count_more test (outcomes_of settings first events) outcome)
    ∙ ap (count_by test) (sym (each_more (outcome_of settings first) [] events event)))

-- nothing is counted where nothing has happened
pub IsCounted-none : (settings : Settings) (first : Secret) (past : List Happening) (counts : Counts) → past ≡ [] → counts ≡ no_counts → IsCounted settings first (events_among past) counts
IsCounted-none settings first past counts none is =
    subst (λ (list : List Happening). IsCounted settings first (events_among list) counts) (sym none)
    (subst (IsCounted settings first []) (sym is) (record { events_are = record { datagrams_are = refl; packets_are = refl; updated_are = refl; torn_are = refl }; few_sends = omega arith }))

pub IsCounted-next : (settings : Settings) (first : Secret) (events : List Event) (event : Event) (counts : Counts) → IsCounted settings first events counts
    → IsCounted settings first (events ++ event ∷ []) (with_outcome counts event (outcome_of settings first events event))
IsCounted-next settings first events event counts counted =
    let before = counted.events_are in
    let few = counted.few_sends in record {
      events_are = record {
        datagrams_are = ap (λ (number : ℕ). number + one_if (is_datagram event)) before.datagrams_are ∙ sym (count_more is_datagram events event);
        packets_are = ap (λ (number : ℕ). number + one_if (is_packet event)) before.packets_are ∙ sym (count_more is_packet events event);
        updated_are = counted_more is_updated settings first events event counts.updated before.updated_are;
        torn_are = counted_more is_torn settings first events event counts.torn before.torn_are;
      };
      few_sends = omega (arith, few);
    }

-- the same of what the event left
pub IsCounted-then : (settings after : Settings) (first : Secret) (events later : List Event) (event : Event) (outcome : Outcome) (counts counts' : Counts) → after ≡ settings → later ≡ events ++ event ∷ []
    → outcome ≡ outcome_of settings first events event → counts' ≡ with_outcome counts event outcome → IsCounted settings first events counts → IsCounted after first later counts'
IsCounted-then settings after first events later event outcome counts counts' same next is count counted =
    subst (λ (known : Settings). IsCounted known first later counts') (sym same)
    (subst (λ (all : List Event). IsCounted settings first all counts') (sym next)
    (subst (IsCounted settings first (events ++ event ∷ [])) (sym (count ∙ ap (with_outcome counts event) is))
    (IsCounted-next settings first events event counts counted)))

-- a secret is not counted
pub secret-uncounted : (counts : Counts) (secret : Secret) → counts ≡ with_outcome counts (Rotate secret) Rotated
secret-uncounted counts secret =
    let datagrams : counts.datagrams ≡ counts.datagrams + 0 = omega arith in
    let packets : counts.packets ≡ counts.packets + 0 = omega arith in
    let updated : counts.updated ≡ counts.updated + 0 = omega arith in
    let torn : counts.torn ≡ counts.torn + 0 = omega arith in
    λ i. record counts { datagrams = datagrams i; packets = packets i; updated = updated i; torn = torn i }

-- neither is a publishing that memory refused
pub IsCounted-late : (settings : Settings) (first : Secret) (events : List Event) (counts counts' : Counts) → counts' ≡ with_late counts → IsCounted settings first events counts
    → IsCounted settings first events counts'
IsCounted-late settings first events counts counts' is counted =
    subst (IsCounted settings first events) (sym is) (record { events_are = counted.events_are; few_sends = counted.few_sends })

-- at most one answer was tried to a datagram that is counted already
pub IsCounted-answered : (settings : Settings) (first : Secret) (events : List Event) (link link' : LinkSeen) (counts counts' : Counts) (sends : List OneSend) → HasAnswered link link' counts counts' (map to_peer sends)
    → length sends ≤ 1 → counts.sent + counts.unsent + 1 ≤ counts.datagrams → CountsAlike counts counts'
    → IsCounted settings first events counts → IsCounted settings first events counts'
IsCounted-answered settings first events link link' counts counts' sends answered few room alike counted =
    let all = answered.as_many in
    let long = length-map sends to_peer in
    let sent = answered.sent_are in
    let unsent = answered.unsent_are in record {
      events_are = record {
        datagrams_are = alike.same_datagrams ∙ counted.events_are.datagrams_are;
        packets_are = alike.same_packets ∙ counted.events_are.packets_are;
        updated_are = alike.same_updated ∙ counted.events_are.updated_are;
        torn_are = alike.same_torn ∙ counted.events_are.torn_are;
      };
      few_sends = omega (arith, all, long, sent, unsent, few, room, alike.same_datagrams);
    }

-- no count passes the number of events
outcomes-few : (settings : Settings) (first : Secret) (events : List Event) (test : Outcome → Bool) → count_by test (outcomes_of settings first events) ≤ length events
outcomes-few settings first events test =
    omega (arith, count_by-le-length test (outcomes_of settings first events), length-each_after (outcome_of settings first) [] events)

pub updated-few : (settings : Settings) (first : Secret) (events : List Event) (counts : Counts) → IsCounted settings first events counts → counts.updated ≤ length events
updated-few settings first events counts counted = omega (arith, counted.events_are.updated_are, outcomes-few settings first events is_updated)

pub torn-few : (settings : Settings) (first : Secret) (events : List Event) (counts : Counts) → IsCounted settings first events counts → counts.torn ≤ length events
torn-few settings first events counts counted = omega (arith, counted.events_are.torn_are, outcomes-few settings first events is_torn)

-- a datagram has at most one answer

abbrev HasFew : EventAnswer → Type 0
HasFew answer = length answer.sends ≤ 1

limited-few : (passed : Option LimitFault) (change : Change) → HasFew (limited_answer passed change)
limited-few None change = omega arith
limited-few (Some fault) change = omega arith

update-few : (good : Bool) (reading : Result (List Record) Unlawful) (passed : List Record → Option LimitFault) (source : EndpointValue) (moment : ℕ)
    → HasFew (update_answer good reading passed source moment)
update-few false reading passed source moment = omega arith
update-few true (Err fault) passed source moment = omega arith
update-few true (Ok records) passed source moment = limited-few (passed (forwardable_records records)) _

teardown-few : (good live : Bool) (named : EndpointValue) (moment : ℕ) → HasFew (teardown_answer good live named moment)
teardown-few false live named moment = omega arith
teardown-few true true named moment = omega arith
teardown-few true false named moment = omega arith

message-few : (settings : Settings) (secrets : SecretsValue) (moment : ℕ) (log : List Change) (octets : List ℕ) (source : EndpointValue) (message : Message)
    → HasFew (message_answer settings secrets moment log octets source message)
message-few settings secrets moment log octets source (Discovery nonce) = omega arith
message-few settings secrets moment log octets source (Advertisement nonce relay) = omega arith
message-few settings secrets moment log octets source (Request v6 nonce) = omega arith
message-few settings secrets moment log octets source (Query limited mac nonce inner seen) = omega arith
message-few settings secrets moment log octets source (Update mac nonce inner) =
    update-few (is_good secrets source nonce mac) (report_in inner) (λ (records : List Record). limit_passed (table_settings_of settings) log source records moment) source moment
message-few settings secrets moment log octets source (Multicast packet) = omega arith
message-few settings secrets moment log octets source (Teardown mac nonce named) =
    teardown-few (is_good secrets named nonce mac) (is_live named (memberships_now (table_settings_of settings) log)) named moment

datagram-few : (settings : Settings) (secrets : SecretsValue) (moment : ℕ) (log : List Change) (octets : List ℕ) (source : Option EndpointValue) (reading : Result Message Refused)
    → HasFew (datagram_answer settings secrets moment log octets source reading)
datagram-few settings secrets moment log octets None reading = omega arith
datagram-few settings secrets moment log octets (Some source) (Err refusal) = omega arith
datagram-few settings secrets moment log octets (Some source) (Ok message) = message-few settings secrets moment log octets source message

pub answers-few : (settings : Settings) (first : Secret) (earlier : List Event) (bytes : List ℕ) (from : Peer) (sends all : List OneSend) → sends ≡ sends_of settings first earlier (Datagram bytes from) → all ≡ sends
    → length all ≤ 1
answers-few settings first earlier bytes from sends all are same =
    subst (λ (list : List OneSend). length list ≤ 1) (sym same)
    (subst (λ (list : List OneSend). length list ≤ 1) (sym are)
    (datagram-few (settings_at settings earlier) (secrets_of settings first earlier) (now_of earlier) (accepted_log settings first earlier) bytes (endpoint_of from) (message_of bytes)))

-- such a datagram is counted before its answers are
pub datagram-room : (before after : Counts) (bytes : List ℕ) (from : Peer) (outcome : Outcome) → after ≡ with_outcome before (Datagram bytes from) outcome → before.sent + before.unsent ≤ before.datagrams
    → after.sent + after.unsent + 1 ≤ after.datagrams
datagram-room before after bytes from outcome counted few =
    let datagrams : after.datagrams ≡ before.datagrams + 1 = ap (λ (one : Counts). one.datagrams) counted in
    let sent : after.sent ≡ before.sent = ap (λ (one : Counts). one.sent) counted in
    let unsent : after.unsent ≡ before.unsent = ap (λ (one : Counts). one.unsent) counted in
    omega (arith, datagrams, sent, unsent, few)
