-- What the relay answers: which datagrams make an entry in its log, and which it sends. One that sends something enters
-- nothing.
use Rattle.std.proofs.{Common.{◌≡◌, ◌≢◌, ℕ, ◌≤◌, ◌<◌, ◌^◌, ◌⊎◌, nat_lt, if◌then◌else◌, Bool, true, false, List, [], ◌∷◌, length, All, Option, Some, None, Result, Ok, Err, refl, ap, subst, arith, inl, inr}, lemmas.{Bool.{ltb-false}, List.Elements.{All-cons, All-nil, All-weaker}}}
use Rattle.amt_values.specs.{Endpoint.{endpoint_of}, EndpointValue.{EndpointValue}, declared.{mac.Mac48.{Mac48}, peer.Peer.{Peer}}}
use Rattle.amt_messages.specs.{Layout.{spelling_of}, Messages.{IsGateway}, Refusal.{message_of}, declared.{message.Message.{Message, TheVariants.{Discovery, Advertisement, Request, Update, Multicast, Teardown}}, refusal.Refused.{Refused}}}
use Rattle.inner_datagrams.specs.{Head.{head_of}, declared.head.Head.{Head}}
use Rattle.response_mac.specs.{ResponseMac.{SecretsValue, is_good}, declared.secret.Secret.{Secret}}
use Rattle.source_filter.specs.declared.record.Record.{Record}
use Rattle.endpoint_membership.specs.{Memberships.{is_live}, Table.{limit_passed, memberships_now}, declared.{change.Change.{Change, TheVariants.{Clear, Reported}}, limits.LimitFault.{LimitFault}}}
use Rattle.gateway_machine.specs.Sends.{octets_of}
use Rattle.relay_machine.specs.{Accepted.{accepted_log, change_of, handed_out}, Answers.{answer_of, sends_of}, EventAnswer.{EventAnswer, datagram_answer, entered, is_limited, limited_answer, message_answer, packet_answer, quiet, replied, teardown_answer, update_answer}, EventSize.{IsPayload}, Events.{limits_at, now_of, secrets_of, settings_at}}
use Rattle.relay_machine.specs.{Packets.{by_head, copies, head_to_copy, targets_at}, Queries.{asks_for_mld, query_for}, Settings.{AreLawfulSettings, table_settings_of}, Updates.{forwardable_records, report_in}, declared.{event.Event.{Event, TheVariants.{Moment, Datagram, Packet, Rotate, Limits}}, number_key.NumberKey.TheVariants.{PacketLimit}, outcome.{Outcome.{Outcome, TheVariants.{TooBig}}, Unlawful.{Unlawful}}, settings.Settings.{Settings}}}
use Rattle.amt_pair.{specs.Schedule.{Upward, delivery_up}, proofs.{DownDatagrams.{IsDown, down-advertisement, down-copy, down-limits, down-query}, SpelledKinds.{gateway-of, small-nonce}, Upwards.{IsUpward}}}

-- ---- which datagrams make an entry

-- an Update whose report is read as these records
pub record IsUpdated (found : Option EndpointValue) (reading : Result Message Refused) (moment : ℕ) (change : Change) : Type 0 where
  pub source : EndpointValue
  pub mac : Mac48
  pub nonce : ℕ
  pub inner : List ℕ
  pub records : List Record
  pub found_is : found ≡ Some source
  pub read : reading ≡ Ok (Update mac nonce inner)
  pub report : report_in inner ≡ Ok records
  pub is : change ≡ Reported source (forwardable_records records) moment

-- a Teardown
pub record IsTornDown (reading : Result Message Refused) (moment : ℕ) (change : Change) : Type 0 where
  pub named : EndpointValue
  pub mac : Mac48
  pub nonce : ℕ
  pub read : reading ≡ Ok (Teardown mac nonce named)
  pub is : change ≡ Clear named moment

-- one or the other
abbrev pub IsEntered : Option EndpointValue → Result Message Refused → ℕ → Change → Type 0
IsEntered found reading moment change = IsUpdated found reading moment change ⊎ IsTornDown reading moment change

-- a nonce that is read has 32 bits, and the sender is an endpoint whose octets a Query can hold
record Fits (found : Option EndpointValue) (reading : Result Message Refused) : Type 0 where
  nonce : (v6 : Bool) (nonce : ℕ) → reading ≡ Ok (Request v6 nonce) → nonce < 2 ^ 32
  source : (source : EndpointValue) → found ≡ Some source → IsGateway source

module _ (settings : Settings) where
  pub none-down : All (IsDown settings) []
  none-down = All-nil (IsDown settings)

  module _ (found : Option EndpointValue) (reading : Result Message Refused) (moment : ℕ) where
    -- what is answered to a datagram
    record IsAnswered (answer : EventAnswer) : Type 0 where
      apart : answer.sends ≢ [] → answer.entry ≡ None
      down : Fits found reading → All (IsDown settings) answer.sends
      entry : (change : Change) → answer.entry ≡ Some change → IsEntered found reading moment change

    answered-quiet : (outcome : Outcome) → IsAnswered (quiet outcome)
    answered-quiet outcome = record { apart = λ some. refl; down = λ fits. none-down; entry = λ change is. absurd cc }

    answered-reply : (outcome : Outcome) (to : EndpointValue) (message : Message) → (Fits found reading → IsDown settings (record { to = to; bytes = spelling_of message }))
        → IsAnswered (replied outcome to message)
    answered-reply outcome to message down =
        record { apart = λ some. refl; down = λ fits. All-cons (IsDown settings) _ [] (down fits) none-down; entry = λ change is. absurd cc }

    answered-entry : (outcome : Outcome) (change : Change) → IsEntered found reading moment change → IsAnswered (entered outcome change)
    answered-entry outcome change kind = record {
      apart = λ some. absurd (some refl);
      down = λ fits. none-down;
      entry = λ other is. let same : change ≡ other = cc in subst (IsEntered found reading moment) same kind;
    }

    answered-limited : (passed : Option LimitFault) (change : Change) → IsEntered found reading moment change → IsAnswered (limited_answer passed change)
    answered-limited None change kind = answered-entry _ change kind
    answered-limited (Some fault) change kind = answered-quiet _

    answered-update : (good : Bool) (report : Result (List Record) Unlawful) (passed : List Record → Option LimitFault) (source : EndpointValue)
        → ((records : List Record) → report ≡ Ok records → IsEntered found reading moment (Reported source (forwardable_records records) moment))
        → IsAnswered (update_answer good report passed source moment)
    answered-update false report passed source kind = answered-quiet _
    answered-update true (Err fault) passed source kind = answered-quiet _
    answered-update true (Ok records) passed source kind =
        answered-limited (passed (forwardable_records records)) (Reported source (forwardable_records records) moment) (kind records refl)

    answered-teardown : (good live : Bool) (named : EndpointValue) → IsEntered found reading moment (Clear named moment) → IsAnswered (teardown_answer good live named moment)
    answered-teardown false live named kind = answered-quiet _
    answered-teardown true true named kind = answered-entry _ (Clear named moment) kind
    answered-teardown true false named kind = answered-entry _ (Clear named moment) kind

  module _ (secrets : SecretsValue) (moment : ℕ) (log : List Change) (octets : List ℕ) where
    answered-message : (source : EndpointValue) (message : Message) → IsAnswered (Some source) (Ok message) moment (message_answer settings secrets moment log octets source message)
    answered-message source (Discovery nonce) =
        answered-reply _ _ moment _ source (Advertisement nonce settings.relay) (λ fits. down-advertisement settings source nonce settings.relay)
    answered-message source (Request v6 nonce) =
        let limited = is_limited (table_settings_of settings) log in
        let mld = asks_for_mld settings octets v6 in
        answered-reply _ _ moment _ source (query_for settings secrets.current mld limited source nonce)
        (λ fits. down-query settings secrets.current mld limited source nonce (fits.nonce v6 nonce refl) (fits.source source refl))
    answered-message source (Update mac nonce inner) =
        answered-update _ _ moment (is_good secrets source nonce mac) (report_in inner) (λ records. limit_passed (table_settings_of settings) log source records moment) source
        (λ records report. inl (record { source = source; mac = mac; nonce = nonce; inner = inner; records = records; found_is = refl; read = refl; report = report; is = refl }))
    answered-message source (Teardown mac nonce named) =
        answered-teardown _ _ moment (is_good secrets named nonce mac) (is_live named (memberships_now (table_settings_of settings) log)) named
        (inr (record { named = named; mac = mac; nonce = nonce; read = refl; is = refl }))
    answered-message source message = answered-quiet _ _ moment _

    answered-datagram : (found : Option EndpointValue) (reading : Result Message Refused)
        → IsAnswered found reading moment (datagram_answer settings secrets moment log octets found reading)
    answered-datagram None reading = answered-quiet _ _ moment _
    answered-datagram (Some source) (Err refusal) = answered-quiet _ _ moment _
    answered-datagram (Some source) (Ok message) = answered-message source message

  -- ---- a packet

  copies-down : (targets : List EndpointValue) (packet : List ℕ) → length packet ≤ 65000 → All (IsDown settings) (copies targets packet)
  copies-down [] packet few = none-down
  copies-down (target ∷ more) packet few =
      All-cons (IsDown settings) (record { to = target; bytes = spelling_of (Multicast packet) }) (copies more packet) (down-copy settings target packet few) (copies-down more packet few)

  packet-down : (targets : Head → List EndpointValue) (packet : List ℕ) (found : Result Head Outcome) → ((head : Head) → found ≡ Ok head → length packet ≤ 65000)
      → All (IsDown settings) (packet_answer targets packet found).sends
  packet-down targets packet (Err outcome) few = none-down
  packet-down targets packet (Ok head) few = copies-down (targets head) packet (few head refl)

-- no entry comes of a packet
pub packet-entry : (targets : Head → List EndpointValue) (packet : List ℕ) (found : Result Head Outcome) → (packet_answer targets packet found).entry ≡ None
packet-entry targets packet (Err outcome) = refl
packet-entry targets packet (Ok head) = refl

size-by : (long : Bool) (fault : Outcome) (found : Result Head Outcome) (head : Head) → (if long then Err fault else found) ≡ Ok head → long ≡ false
size-by true fault found head is = absurd cc
size-by false fault found head is = refl

-- ---- each event

module _ (settings : Settings) (first : Secret) (events : List Event) where
  -- what the relay sends on a packet
  pub down-packet : (bytes : List ℕ) → AreLawfulSettings settings → All (IsDown settings) (sends_of settings first events (Packet bytes))
  down-packet bytes lawful =
      let few = (lawful.numbers PacketLimit).most in
      packet-down settings (targets_at (table_settings_of settings) (accepted_log settings first events) (now_of events)) bytes (head_to_copy settings.packet_limit bytes)
      (λ head is.
      let size = ltb-false settings.packet_limit (length bytes)
      (size-by (nat_lt settings.packet_limit (length bytes)) (TooBig (length bytes)) (by_head (head_of bytes)) head is) in
      omega arith)

  answered : (bytes : List ℕ) (from : Peer) → IsAnswered (settings_at settings events) (endpoint_of from) (message_of bytes) (now_of events) (answer_of settings first events (Datagram bytes from))
  answered bytes from =
      answered-datagram (settings_at settings events) (secrets_of settings first events) (now_of events) (accepted_log settings first events) bytes (endpoint_of from) (message_of bytes)

  -- and on a datagram of a gateway
  pub down-delivery : (upward : Upward) → IsUpward upward → All (IsDown settings) (sends_of settings first events (delivery_up upward))
  down-delivery upward is =
      All-weaker (IsDown (settings_at settings events)) (IsDown settings) (down-limits settings (limits_at settings events)) (sends_of settings first events (delivery_up upward))
      ((answered (octets_of upward.sent.sending.message upward.sent.sending.for_linux) upward.from).down (record {
        nonce = λ v6 nonce read. small-nonce upward.sent.sending.message upward.sent.sending.for_linux v6 nonce read;
        source = λ source found. gateway-of upward.from source is.peer found;
      }))

  -- which entry it makes of one
  pub datagram-entry : (bytes : List ℕ) (from : Peer) (change : Change) → (answer_of settings first events (Datagram bytes from)).entry ≡ Some change
      → IsEntered (endpoint_of from) (message_of bytes) (now_of events) change
  datagram-entry bytes from = (answered bytes from).entry

  -- an event on which something is sent is a datagram or a packet
  pub sender_payload : (event : Event) → sends_of settings first events event ≢ [] → IsPayload event
  sender_payload (Moment reported) some = absurd (some refl)
  sender_payload (Rotate secret) some = absurd (some refl)
  sender_payload (Limits limits) some = absurd (some refl)
  sender_payload (Packet bytes) some = tt
  sender_payload (Datagram bytes from) some = tt

  sender_entry : (event : Event) → sends_of settings first events event ≢ [] → (answer_of settings first events event).entry ≡ None
  sender_entry (Moment reported) some = absurd (some refl)
  sender_entry (Rotate secret) some = refl
  sender_entry (Limits limits) some = refl
  sender_entry (Packet bytes) some =
      packet-entry (targets_at (table_settings_of settings) (accepted_log settings first events) (now_of events)) bytes (head_to_copy settings.packet_limit bytes)
  sender_entry (Datagram bytes from) some = (answered bytes from).apart some

  -- and no entry is handed out for it
  pub sender_change : (event : Event) → sends_of settings first events event ≢ [] → change_of settings first events event ≡ None
  sender_change event some = ap (handed_out (table_settings_of settings) (accepted_log settings first events)) (sender_entry event some)
