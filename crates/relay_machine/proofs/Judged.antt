-- What holds of each answer: when its entry was made, and which datagrams come to Updated and TornDown.
use Rattle.std.proofs.{Common.{◌≡◌, ℕ, max, nat_lt, Bool, true, false, List, [], ◌∷◌, ◌++◌, reverse, length, Option, Some, None, Result, Ok, Err, refl, sym, ap, ◌∙◌, arith}, lemmas.{Bool.{cond_both}, List.{append-nil, reverse-append, reverse-reverse, Elements.{filter_map-append}, Sums.{fold-append}}}}
use Rattle.std.specs.List.{fold, filter_map}
use Rattle.amt_values.specs.{Endpoint.{endpoint_of}, EndpointValue.{EndpointValue}, Group.{is_forwardable}, declared.mac.Mac48.{Mac48}}
use Rattle.amt_messages.specs.{Refusal.{message_of}, declared.{message.Message.{Message, TheVariants.{Teardown, Update}}, refusal.Refused.{Refused}}}
use Rattle.response_mac.specs.{ResponseMac.{SecretsValue, is_good}, declared.secret.Secret.{Secret}}
use Rattle.inner_datagrams.specs.{Head.{head_of}, declared.head.{Head.{Head}, HeadFault.{HeadFault}}}
use Rattle.source_filter.specs.declared.record.Record.{Record}
use Rattle.endpoint_membership.{specs.{Log.{brought, latest}, Memberships.{is_live}, Table.{TableSettings, limit_passed, memberships_now}, declared.{change.Change.{Change, TheVariants.{Mark, Reported}}, limits.LimitFault.{LimitFault}}}, proofs.HoldsAfter.{latest-push}}
use Rattle.relay_machine.specs.declared.{event.Event.{Event, TheVariants.{Moment, Datagram, Packet, Rotate, Limits}}, outcome.{Outcome.{Outcome, TheVariants.{TornDown, Updated}}, Unlawful.{Unlawful}}, settings.Settings.{Settings}}
use Rattle.relay_machine.specs.{Accepted.{accepted_back, accepted_log, entry_after, with_change}, EventAnswer.{EventAnswer, datagram_answer, event_answer, limited_answer, packet_answer, teardown_answer, update_answer}, Events.{moment_in, now_of, secrets_of, settings_at}, Packets.{by_head, by_scope, targets_at}, Settings.{table_settings_of}, Updates.{forwardable_records, report_in}}

-- an entry, if there is one, is made at this moment
abbrev pub IsMadeAt : ℕ → Option Change → Type 0
IsMadeAt moment None = Unit {0}
IsMadeAt moment (Some change) = brought change ≡ moment

-- so is one that may be entered, and a report passes no limit
abbrev pub MayEnter : TableSettings → List Change → ℕ → Option Change → Type 0
MayEnter terms log moment (Some (Reported source records at)) = (at ≡ moment) × (limit_passed terms log source records at ≡ None)
MayEnter terms log moment entry = IsMadeAt moment entry

may-made : (terms : TableSettings) (log : List Change) (moment : ℕ) (entry : Option Change) → MayEnter terms log moment entry → IsMadeAt moment entry
may-made terms log moment (Some (Reported source records at)) may = may.0
may-made terms log moment entry may = may

-- the entry may be made; where the answer is Updated this Update came, and where it is TornDown this Teardown
pub record IsJudged (terms : TableSettings) (log : List Change) (moment : ℕ) (Updates Tears : Type 0) (answer : EventAnswer) : Type 0 where
  pub may : MayEnter terms log moment answer.entry
  pub updated : answer.outcome ≡ Updated → Updates
  pub torn : answer.outcome ≡ TornDown → Tears

-- what came where a datagram is judged to be an accepted Update
pub record IsUpdateOf (settings : Settings) (secrets : SecretsValue) (moment : ℕ) (log : List Change) (from : Option EndpointValue) (reading : Result Message Refused) : Type 0 where
  pub source : EndpointValue
  pub mac : Mac48
  pub nonce : ℕ
  pub inner : List ℕ
  pub records : List Record
  pub comes_from : from ≡ Some source
  pub read : reading ≡ Ok (Update mac nonce inner)
  pub good : is_good secrets source nonce mac ≡ true
  pub lawful : report_in inner ≡ Ok records
  pub none : limit_passed (table_settings_of settings) log source (forwardable_records records) moment ≡ None

-- what came where it is judged to be an accepted Teardown
pub record IsTeardownOf (settings : Settings) (secrets : SecretsValue) (log : List Change) (from : Option EndpointValue) (reading : Result Message Refused) : Type 0 where
  pub sender : EndpointValue
  pub mac : Mac48
  pub nonce : ℕ
  pub named : EndpointValue
  pub comes_from : from ≡ Some sender
  pub read : reading ≡ Ok (Teardown mac nonce named)
  pub good : is_good secrets named nonce mac ≡ true
  pub live : is_live named (memberships_now (table_settings_of settings) log) ≡ true

module _ (terms : TableSettings) (log : List Change) (moment : ℕ) (Updates Tears : Type 0) where
  limit-judged : (passed : Option LimitFault) (source : EndpointValue) (records : List Record) → limit_passed terms log source records moment ≡ passed → (passed ≡ None → Updates)
      → IsJudged terms log moment Updates Tears (limited_answer passed (Reported source records moment))
  limit-judged None source records is update = record { may = (refl, is); updated = λ same. update refl; torn = λ same. cc }
  limit-judged (Some fault) source records is update = record { may = tt; updated = λ same. cc; torn = λ same. cc }

  update-judged : (good : Bool) (reading : Result (List Record) Unlawful) (source : EndpointValue)
      → (good ≡ true → (records : List Record) → reading ≡ Ok records → limit_passed terms log source (forwardable_records records) moment ≡ None → Updates)
      → IsJudged terms log moment Updates Tears (update_answer good reading (λ records. limit_passed terms log source records moment) source moment)
  update-judged true (Ok records) source update = limit-judged (limit_passed terms log source (forwardable_records records) moment) source (forwardable_records records) refl (update refl records refl)
  update-judged true (Err fault) source update = record { may = tt; updated = λ same. cc; torn = λ same. cc }
  update-judged false reading source update = record { may = tt; updated = λ same. cc; torn = λ same. cc }

  teardown-judged : (good live : Bool) (named : EndpointValue) → (good ≡ true → live ≡ true → Tears) → IsJudged terms log moment Updates Tears (teardown_answer good live named moment)
  teardown-judged true true named teardown = record { may = refl; updated = λ same. cc; torn = λ same. teardown refl refl }
  teardown-judged true false named teardown = record { may = refl; updated = λ same. cc; torn = λ same. cc }
  teardown-judged false live named teardown = record { may = tt; updated = λ same. cc; torn = λ same. cc }

module _ (settings : Settings) (secrets : SecretsValue) (moment : ℕ) (log : List Change) where
  pub datagram-judged : (octets : List ℕ) (from : Option EndpointValue) (reading : Result Message Refused)
      → IsJudged (table_settings_of settings) log moment (IsUpdateOf settings secrets moment log from reading) (IsTeardownOf settings secrets log from reading) (datagram_answer settings secrets moment log octets from reading)
  datagram-judged octets (Some source) (Ok (Update mac nonce inner)) =
      update-judged (table_settings_of settings) log moment _ _ (is_good secrets source nonce mac) (report_in inner) source
      (λ good records lawful none. record { source = source; mac = mac; nonce = nonce; inner = inner; records = records; comes_from = refl; read = refl; good = good; lawful = lawful; none = none })
  datagram-judged octets (Some source) (Ok (Teardown mac nonce named)) =
      teardown-judged (table_settings_of settings) log moment _ _ (is_good secrets named nonce mac) (is_live named (memberships_now (table_settings_of settings) log)) named
      (λ good live. record { sender = source; mac = mac; nonce = nonce; named = named; comes_from = refl; read = refl; good = good; live = live })
  datagram-judged octets from reading = record { may = tt; updated = λ same. cc; torn = λ same. cc }

  scope-judged : (forwards : Bool) (head : Head) (targets : Head → List EndpointValue) (packet : List ℕ) → IsJudged (table_settings_of settings) log moment ⊥ ⊥ (packet_answer targets packet (by_scope forwards head))
  scope-judged true head targets packet = record { may = tt; updated = λ same. cc; torn = λ same. cc }
  scope-judged false head targets packet = record { may = tt; updated = λ same. cc; torn = λ same. cc }

  head-judged : (reading : Result Head HeadFault) (targets : Head → List EndpointValue) (packet : List ℕ) → IsJudged (table_settings_of settings) log moment ⊥ ⊥ (packet_answer targets packet (by_head reading))
  head-judged (Err fault) targets packet = record { may = tt; updated = λ same. cc; torn = λ same. cc }
  head-judged (Ok head) targets packet = scope-judged (is_forwardable head.group) head targets packet

  pub packet-judged : (packet : List ℕ) → IsJudged (table_settings_of settings) log moment ⊥ ⊥ (event_answer settings secrets moment log (Packet packet))
  packet-judged packet =
      cond_both (nat_lt settings.packet_limit (length packet)) _ _ (λ (head : Result Head Outcome). IsJudged (table_settings_of settings) log moment ⊥ ⊥ (packet_answer (targets_at (table_settings_of settings) log moment) packet head))
      (λ _. record { may = tt; updated = λ same. cc; torn = λ same. cc }) (λ _. head-judged (head_of packet) (targets_at (table_settings_of settings) log moment) packet)

  -- what an event enters that reports no moment
  pub may-enter : (event : Event) → filter_map moment_in (event ∷ []) ≡ [] → MayEnter (table_settings_of settings) log moment (event_answer settings secrets moment log event).entry
  may-enter (Moment reported) none = cc
  may-enter (Rotate secret) none = tt
  may-enter (Limits limits) none = tt
  may-enter (Packet bytes) none = (packet-judged bytes).may
  may-enter (Datagram bytes from) none = (datagram-judged bytes (endpoint_of from) (message_of bytes)).may

  pub unmoved-made : (event : Event) → filter_map moment_in (event ∷ []) ≡ [] → IsMadeAt moment (event_answer settings secrets moment log event).entry
  unmoved-made event none = may-made (table_settings_of settings) log moment (event_answer settings secrets moment log event).entry (may-enter event none)

pub now_of-moment : (events : List Event) (moment : ℕ) → now_of (events ++ Moment moment ∷ []) ≡ max (now_of events) moment
unfolding now_of
now_of-moment events moment =
    ap (fold max 0) (filter_map-append moment_in events (Moment moment ∷ [])) ∙ fold-append max 0 (filter_map moment_in events) (moment ∷ [])

-- an event that reports no moment leaves the moment
now_of-other : (events : List Event) (event : Event) → filter_map moment_in (event ∷ []) ≡ [] → now_of (events ++ event ∷ []) ≡ now_of events
unfolding now_of
now_of-other events event none =
    ap (fold max 0) (filter_map-append moment_in events (event ∷ []) ∙ (ap (λ (reported : List ℕ). filter_map moment_in events ++ reported) none ∙ append-nil _))

latest-with : (log : List Change) (entry : Option Change) (moment : ℕ) → latest log ≡ moment → IsMadeAt moment entry → latest (with_change log entry) ≡ moment
latest-with log None moment same made = same
latest-with log (Some change) moment same made = let pushed = latest-push log change in omega (arith, pushed, same, made)

-- the latest moment of the accepted log is that of the events
pub latest_back : (settings : Settings) (first : Secret) (back : List Event) → latest (accepted_back settings first back) ≡ now_of (reverse back)
unfolding accepted_back now_of
latest_back settings first [] = refl
latest_back settings first (Moment moment ∷ earlier) =
    let log = accepted_back settings first earlier in
    let events = reverse earlier in
    let before = latest_back settings first earlier in
    let pushed = latest-push log (Mark (max (now_of events) moment)) in
    let now = ap now_of (reverse-append (Moment moment ∷ []) earlier) ∙ now_of-moment events moment in
    omega (arith, pushed, before, now)
latest_back settings first (event ∷ earlier) =
    let log = accepted_back settings first earlier in
    let now = now_of (reverse earlier) in
    latest-with log (entry_after settings first (reverse earlier) log event) now (latest_back settings first earlier) (unmoved-made (settings_at settings (reverse earlier)) (secrets_of settings first (reverse earlier)) now log event refl)
    ∙ sym (ap now_of (reverse-append (event ∷ []) earlier) ∙ now_of-other (reverse earlier) event refl)

-- the newest entry is of the moment of the events
pub latest-accepted_log : (settings : Settings) (first : Secret) (events : List Event) → latest (accepted_log settings first events) ≡ now_of events
latest-accepted_log settings first events = latest_back settings first (reverse events) ∙ ap now_of (reverse-reverse events)
