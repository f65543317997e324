-- A packet changes nothing of a relay: neither its log nor its moment nor its secrets.
use Rattle.std.{proofs.Common.{◌≡◌, ◌+◌, ℕ, Bool, true, false, List, [], ◌∷◌, ◌++◌, length, nat_lt, if◌then◌else◌, refl, sym, ap, subst, ◌∙◌, append_assoc, append-nil, arith}, specs.Prelude.{Option, None, Result, Ok, Err}}
use Rattle.core.specs.List.{cons_option}
use Rattle.amt_ports.specs.{declared.feed.FeedAnswer.{FeedAnswer, TheVariants.{Packet as PacketFed, Nothing as NothingFed, Closed as FeedClosed}}, Answers.{Taken, unless_starved}}
use Rattle.amt_values.specs.{EndpointValue.{EndpointValue}, Group.{is_forwardable}}
use Rattle.response_mac.specs.declared.secret.Secret.{Secret}
use Rattle.inner_datagrams.specs.{Head.{head_of}, declared.head.{Head.{Head}, HeadFault.{HeadFault}}}
use Rattle.endpoint_membership.specs.{Table.{Holds}, declared.change.Change.{Change}}
use Rattle.relay_machine.specs.{Accepted.{accepted_log, handed_out, with_change}, Answers.{RelayAt, outcome_of}, Courses.{is_torn, is_updated}, EventAnswer.{packet_answer}, Events.{now_of}, Packets.{by_head, by_scope, head_to_copy, targets_at}, Published.{published_log}}
use Rattle.relay_machine.{specs.{Settings.{table_settings_of}, declared.{event.Event.{Event, TheVariants.{Packet}}, outcome.Outcome.{Outcome, TheVariants.{TooBig}}, relay.Relay.{Relay}, settings.Settings.{Settings}}}, proofs.{Onward.{RelayAt-payload}, PublishedLog.{published_log-next}}}
use Rattle.relay_serving.specs.{Counting.{with_outcome, with_packet}, Events.{packet_of, packets_in}, declared.counts.Counts.{Counts}}

enters_none : (targets : Head → List EndpointValue) (packet : List ℕ) (reading : Result Head Outcome) → (packet_answer targets packet reading).entry ≡ None
enters_none targets packet (Ok head) = refl
enters_none targets packet (Err outcome) = refl

pub RelayAt-packet : (relay : Relay) (settings : Settings) (first : Secret) (events : List Event) (bytes : List ℕ) → RelayAt relay settings first events
    → RelayAt relay settings first (events ++ Packet bytes ∷ [])
RelayAt-packet relay settings first events bytes at =
    let log = accepted_log settings first events in
    let none = enters_none (targets_at (table_settings_of settings) log (now_of events)) bytes (head_to_copy settings.packet_limit bytes) in
    RelayAt-payload relay relay settings first events (Packet bytes) at tt refl refl refl
    (subst (λ (entry : Option Change). Holds (table_settings_of settings) relay.table (with_change log entry)) (sym none) at.table)

pub published_log-packet : (settings : Settings) (first : Secret) (events : List Event) (bytes : List ℕ)
    → published_log settings first (events ++ Packet bytes ∷ []) ≡ published_log settings first events
published_log-packet settings first events bytes =
    let log = accepted_log settings first events in
    let none = enters_none (targets_at (table_settings_of settings) log (now_of events)) bytes (head_to_copy settings.packet_limit bytes) in
    published_log-next settings first events (Packet bytes)
    ∙ ap (λ (entry : Option Change). with_change (published_log settings first events) (handed_out (table_settings_of settings) log entry)) none

-- nor do several
published_log-taken : (settings : Settings) (first : Secret) (later : List Event) (starved : Bool) (answer : FeedAnswer)
    → ((events : List Event) → published_log settings first (events ++ later) ≡ published_log settings first events) → (events : List Event)
    → published_log settings first (events ++ cons_option (unless_starved starved (packet_of answer)) later) ≡ published_log settings first events
published_log-taken settings first later true answer same events = same events
published_log-taken settings first later false (PacketFed bytes) same events =
    ap (published_log settings first) (sym (append_assoc events (Packet bytes ∷ []) later)) ∙ same (events ++ Packet bytes ∷ []) ∙ published_log-packet settings first events bytes
published_log-taken settings first later false NothingFed same events = same events
published_log-taken settings first later false FeedClosed same events = same events

pub published_log-packets : (settings : Settings) (first : Secret) (fed : List (Taken FeedAnswer)) (events : List Event)
    → published_log settings first (events ++ packets_in fed) ≡ published_log settings first events
published_log-packets settings first [] events = ap (published_log settings first) (append-nil events)
published_log-packets settings first (one ∷ fed) events =
    published_log-taken settings first (packets_in fed) one.starved one.answer (published_log-packets settings first fed) events

-- it is neither an Update nor a Teardown
abbrev IsPlain : Outcome → Type 0
IsPlain outcome = (is_updated outcome ≡ false) × (is_torn outcome ≡ false)

scope_plain : (forwards : Bool) (head : Head) (targets : Head → List EndpointValue) (packet : List ℕ) → IsPlain (packet_answer targets packet (by_scope forwards head)).outcome
scope_plain true head targets packet = (refl, refl)
scope_plain false head targets packet = (refl, refl)

head_plain : (reading : Result Head HeadFault) (targets : Head → List EndpointValue) (packet : List ℕ) → IsPlain (packet_answer targets packet (by_head reading)).outcome
head_plain (Err fault) targets packet = (refl, refl)
head_plain (Ok head) targets packet = scope_plain (is_forwardable head.group) head targets packet

packet_plain : (big : Bool) (octets : ℕ) (reading : Result Head HeadFault) (targets : Head → List EndpointValue) (packet : List ℕ)
    → IsPlain (packet_answer targets packet (if big then Err (TooBig octets) else by_head reading)).outcome
packet_plain true octets reading targets packet = (refl, refl)
packet_plain false octets reading targets packet = head_plain reading targets packet

pub outcome-plain : (settings : Settings) (first : Secret) (events : List Event) (bytes : List ℕ) → IsPlain (outcome_of settings first events (Packet bytes))
outcome-plain settings first events bytes =
    packet_plain (nat_lt settings.packet_limit (length bytes)) (length bytes) (head_of bytes) (targets_at (table_settings_of settings) (accepted_log settings first events) (now_of events)) bytes

-- one packet more is counted, and nothing else
pub counted-packet : (counts : Counts) (bytes : List ℕ) (outcome : Outcome) → IsPlain outcome
    → with_packet counts ≡ with_outcome counts (Packet bytes) outcome
counted-packet counts bytes outcome plain =
    let none : (number : ℕ) → number ≡ number + 0 = λ number. omega arith in
    let updated = none counts.updated ∙ ap (λ (known : Bool). counts.updated + (if known then 1 else 0)) (sym plain.0) in
    let torn = none counts.torn ∙ ap (λ (known : Bool). counts.torn + (if known then 1 else 0)) (sym plain.1) in
    λ i. record counts { datagrams = none counts.datagrams i; packets = counts.packets + 1; updated = updated i; torn = torn i }
