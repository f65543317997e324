-- Where one more event leaves a relay.
use Rattle.std.{proofs.{Common.{◌≡◌, ◌≤◌, ℕ, max, List, [], ◌∷◌, ◌++◌, Result, Ok, Err, refl, sym, ap, subst, ◌∙◌}, Math.Logic.{∥∥₁_elim, ∥∥₁_map, ∥∥₁_prop}, Props.{props}, lemmas.List.{append-nil, reverse-append, reverse-reverse, Elements.{filter_map-append}}}, specs.{Coded.{le_prop}, List.{filter_map}, Result.{IfOk, OnErr}}}
use mathlib.Core.HLevel.{is_prop→PathP}
use Rattle.response_mac.specs.{declared.secret.Secret.{Secret}, ResponseMac.{SecretsValue, secrets_after}}
use Rattle.endpoint_membership.specs.{Limits.{AreFew, AreWithin, IsWithin}, Log.{latest}, Table.{Holds, IsWithinLimits, TableValue, TableSettings, memberships_now}, Targets.{TargetsValue}}
use Rattle.endpoint_membership.{specs.declared.{change.Change.{Change, TheVariants.{Mark}}, limits.Limits.{Limits}, row.Row.{Row}}, proofs.HoldsAfter.{IsWithin-log}}
use Rattle.relay_machine.specs.{declared.{event.Event.{Event, TheVariants.{Moment, Rotate, Limits as Lowered}}, relay.Relay.{Relay}, sends.Step.{Step}, settings.Settings.{Settings}}, Accepted.{accepted_back, accepted_log, entry_after, entry_of, with_change}, Answers.{RelayAt, StandsFor, answer_of, moment_of, settings_of}, EventSize.{IsPayload}}
use Rattle.relay_machine.{specs.{EventAnswer.{EventAnswer, event_answer}, Events.{limits_at, now_of, secret_in, secrets_of}, Logs.{AnswersByLog, IsAnswered, settings_in_force}, Settings.{table_settings_of}, State.{HasLog}}, proofs.{InForce.{limits_at-limits, limits_at-moment, limits_at-payload, limits_at-rotate}, Judged.{latest-accepted_log}}}

secrets_of-rotate : (settings : Settings) (first : Secret) (events : List Event) (secret : Secret)
    → secrets_of settings first (events ++ Rotate secret ∷ []) ≡ secrets_after settings.secrets first (filter_map secret_in events ++ secret ∷ [])
unfolding secrets_of
secrets_of-rotate settings first events secret = ap (secrets_after settings.secrets first) (filter_map-append secret_in events (Rotate secret ∷ []))

-- an event that brings no secret leaves the secrets
secrets_of-other : (settings : Settings) (first : Secret) (events : List Event) (event : Event) → filter_map secret_in (event ∷ []) ≡ []
    → secrets_of settings first (events ++ event ∷ []) ≡ secrets_of settings first events
unfolding secrets_of
secrets_of-other settings first events event none =
    ap (secrets_after settings.secrets first)
    (filter_map-append secret_in events (event ∷ []) ∙ (ap (λ (brought : List Secret). filter_map secret_in events ++ brought) none ∙ append-nil _))

-- one event more adds its entry, or none, to the log
pub accepted-push : (settings : Settings) (first : Secret) (events : List Event) (event : Event)
    → accepted_log settings first (events ++ event ∷ []) ≡ with_change (accepted_log settings first events) (entry_of settings first events event)
unfolding accepted_back
accepted-push settings first events event =
    let log = accepted_log settings first events in
    ap (accepted_back settings first) (reverse-append events (event ∷ []))
    ∙ ap (λ (earlier : List Event). with_change log (entry_after settings first earlier log event)) (reverse-reverse events)

-- a relay's table represents the accepted log
pub StandsFor-accepted : (relay : Relay) (settings : Settings) (first : Secret) (events : List Event) → RelayAt relay settings first events
    → StandsFor relay (accepted_log settings first events)
StandsFor-accepted relay settings first events at =
    subst (λ (known : Settings). Holds (table_settings_of known) relay.table (accepted_log settings first events)) (sym at.settings_kept) at.table

-- the limits of a relay's table are those of its settings
pub AreFew-settings : (relay : Relay) (rows : List Row) → AreFew relay.table.limits rows → AreFew (settings_of relay).limits rows
AreFew-settings relay rows few =
    ∥∥₁_elim relay.has_log (hlevel props) (λ found. subst (λ (limits : Limits). AreFew limits rows) found.1.limits few)

within_prop : (table : TableValue) → IsProp (IsWithinLimits table)
within_prop table = hlevel props

no_targets_prop : (targets : TargetsValue) → IsProp (targets.endpoints ≡ [])
no_targets_prop targets = hlevel props

-- relays that keep the same are one
pub same_relay : (relay : Relay) (table : TableValue) (targets : TargetsValue) (within : IsWithinLimits table) (has_log : ∥ HasLog (table_settings_of relay.setup.settings) table ∥₁)
    (has_room : relay.setup.settings.limits.endpoints ≤ targets.room) (no_targets : targets.endpoints ≡ []) → table ≡ relay.table → targets ≡ relay.targets
    → record relay { table = table; targets = targets; within = within; has_log = has_log; has_room = has_room; no_targets = no_targets } ≡ relay
same_relay relay table targets within has_log has_room no_targets same same_targets = λ i. record relay {
  table = same i;
  targets = same_targets i;
  within = is_prop→PathP (λ j. IsWithinLimits (same j)) (λ j. within_prop (same j)) within relay.within i;
  has_log = is_prop→PathP (λ j. ∥ HasLog (table_settings_of relay.setup.settings) (same j) ∥₁) (λ j. ∥∥₁_prop) has_log relay.has_log i;
  has_room = is_prop→PathP (λ j. relay.setup.settings.limits.endpoints ≤ (same_targets j).room) (λ j. le_prop) has_room relay.has_room i;
  no_targets = is_prop→PathP (λ j. (same_targets j).endpoints ≡ []) (λ j. no_targets_prop (same_targets j)) no_targets relay.no_targets i;
}

-- a new relay
pub RelayAt-new : (relay : Relay) (settings : Settings) (first : Secret) → settings_of relay ≡ settings → relay.secrets ≡ secrets_after settings.secrets first []
    → Holds (table_settings_of settings) relay.table [] → relay.table.in_force ≡ settings.limits → RelayAt relay settings first []
unfolding now_of secrets_of limits_at accepted_back
RelayAt-new relay settings first same_settings same_secrets holds force =
    record { settings_kept = same_settings; secrets = same_secrets; table = holds; moment = holds.moment; force = force }

-- the table after an event, with the entry that the event adds
Holds-push : (settings : Settings) (first : Secret) (events : List Event) (event : Event) (table : TableValue)
    → Holds (table_settings_of settings) table (with_change (accepted_log settings first events) (entry_of settings first events event))
    → Holds (table_settings_of settings) table (accepted_log settings first (events ++ event ∷ []))
Holds-push settings first events event table holds = subst (Holds (table_settings_of settings) table) (sym (accepted-push settings first events event)) holds

-- the relay is where the events leave it, since the log is of their moment
RelayAt-push : (after : Relay) (settings : Settings) (first : Secret) (events : List Event) (event : Event) → settings_of after ≡ settings → after.secrets ≡ secrets_of settings first (events ++ event ∷ [])
    → after.table.in_force ≡ limits_at settings (events ++ event ∷ [])
    → Holds (table_settings_of settings) after.table (with_change (accepted_log settings first events) (entry_of settings first events event))
    → RelayAt after settings first (events ++ event ∷ [])
RelayAt-push after settings first events event same_settings same_secrets force holds =
    let table = Holds-push settings first events event after.table holds in
    record { settings_kept = same_settings; secrets = same_secrets; table = table; moment = table.moment ∙ latest-accepted_log settings first (events ++ event ∷ []); force = force }

-- a moment moves the table on, and changes nothing else
pub RelayAt-moment : (relay after : Relay) (settings : Settings) (first : Secret) (events : List Event) (moment later : ℕ) → RelayAt relay settings first events
    → settings_of after ≡ settings_of relay → after.secrets ≡ relay.secrets → later ≡ max (moment_of relay) moment
    → after.table.in_force ≡ relay.table.in_force
    → ((terms : TableSettings) (log : List Change) → Holds terms relay.table log → Holds terms after.table (log ++ Mark later ∷ []))
    → RelayAt after settings first (events ++ Moment moment ∷ [])
RelayAt-moment relay after settings first events moment later at same_settings same_secrets later_is same_force marked =
    let log = accepted_log settings first events in
    RelayAt-push after settings first events (Moment moment) (same_settings ∙ at.settings_kept) (same_secrets ∙ (at.secrets ∙ sym (secrets_of-other settings first events (Moment moment) refl)))
    (same_force ∙ (at.force ∙ sym (limits_at-moment settings events moment)))
    (subst (λ (m : ℕ). Holds (table_settings_of settings) after.table (log ++ Mark m ∷ [])) (later_is ∙ ap (λ (m : ℕ). max m moment) at.moment) (marked (table_settings_of settings) log at.table))

payload_secret : (event : Event) → IsPayload event → filter_map secret_in (event ∷ []) ≡ []
payload_secret (Moment moment) payload = absurd payload
payload_secret (Rotate secret) payload = absurd payload
payload_secret (Lowered limits) payload = absurd payload
payload_secret event payload = refl

-- what is answered by the table's own log is what is answered by the events
pub answered-after : {E : Type 0} (relay : Relay) (after : TableValue) (settings : Settings) (first : Secret) (events : List Event) (event : Event) (result : Result Step E)
    → RelayAt relay settings first events
    → AnswersByLog (table_settings_of (settings_of relay)) relay.table after result (λ log. event_answer (settings_in_force (settings_of relay) relay.table) relay.secrets (latest log) log event)
    → IfOk result (IsAnswered (table_settings_of settings) relay.table after (accepted_log settings first events) (answer_of settings first events event))
answered-after relay after settings first events event result at answers =
    let log = accepted_log settings first events in
    let by : Settings → Limits → SecretsValue → ℕ → Type 0 =
    λ known limits secrets moment. IfOk result (IsAnswered (table_settings_of known) relay.table after log (event_answer (record known { limits = limits }) secrets moment log event)) in
    subst (by settings (limits_at settings events) (secrets_of settings first events)) (latest-accepted_log settings first events)
    (subst (λ (secrets : SecretsValue). by settings (limits_at settings events) secrets (latest log)) at.secrets
    (subst (λ (limits : Limits). by settings limits relay.secrets (latest log)) at.force
    (subst (λ (known : Settings). by known relay.table.in_force relay.secrets (latest log)) at.settings_kept (answers log (StandsFor-accepted relay settings first events at)))))

-- a datagram or a packet changes the table by the entry that it adds, and nothing else
pub RelayAt-payload : (relay after : Relay) (settings : Settings) (first : Secret) (events : List Event) (event : Event) → RelayAt relay settings first events → IsPayload event
    → settings_of after ≡ settings_of relay → after.secrets ≡ relay.secrets → after.table.in_force ≡ relay.table.in_force
    → Holds (table_settings_of settings) after.table (with_change (accepted_log settings first events) (entry_of settings first events event))
    → RelayAt after settings first (events ++ event ∷ [])
RelayAt-payload relay after settings first events event at payload same_settings same_secrets same_force holds =
    RelayAt-push after settings first events event (same_settings ∙ at.settings_kept) (same_secrets ∙ (at.secrets ∙ sym (secrets_of-other settings first events event (payload_secret event payload))))
    (same_force ∙ (at.force ∙ sym (limits_at-payload settings events event payload))) holds

-- a secret is the last of the secrets, and nothing else changes
pub RelayAt-rotate : (relay after : Relay) (settings : Settings) (first : Secret) (events : List Event) (secret : Secret) → RelayAt relay settings first events
    → settings_of after ≡ settings_of relay → after.table ≡ relay.table
    → ((keep : ℕ) (f : Secret) (changes : List Secret) → relay.secrets ≡ secrets_after keep f changes → after.secrets ≡ secrets_after keep f (changes ++ secret ∷ []))
    → RelayAt after settings first (events ++ Rotate secret ∷ [])
unfolding secrets_of
RelayAt-rotate relay after settings first events secret at same_settings same_table appended =
    RelayAt-push after settings first events (Rotate secret) (same_settings ∙ at.settings_kept) (appended settings.secrets first (filter_map secret_in events) at.secrets ∙ sym (secrets_of-rotate settings first events secret))
    (ap (λ (table : TableValue). table.in_force) same_table ∙ (at.force ∙ sym (limits_at-rotate settings events secret)))
    (subst (λ (table : TableValue). Holds (table_settings_of settings) table (accepted_log settings first events)) (sym same_table) at.table)

-- other limits in force leave what the table represents
pub Holds-in_force : (terms : TableSettings) (table after : TableValue) (limits : Limits) (log : List Change) → after ≡ record table { in_force = limits } → Holds terms table log → Holds terms after log
Holds-in_force terms table after limits log same holds =
    subst (λ (one : TableValue). Holds terms one log) (sym same) (record { limits = holds.limits; lifetime = holds.lifetime; moment = holds.moment; rows = holds.rows })

-- limits that a relay takes are in force then, and nothing else changes
pub RelayAt-limits : (relay after : Relay) (settings : Settings) (first : Secret) (events : List Event) (limits : Limits) → RelayAt relay settings first events → AreWithin (settings_of relay).limits limits
    → settings_of after ≡ settings_of relay → after.secrets ≡ relay.secrets → after.table ≡ record relay.table { in_force = limits } → RelayAt after settings first (events ++ Lowered limits ∷ [])
RelayAt-limits relay after settings first events limits at within same_settings same_secrets same_table =
    RelayAt-push after settings first events (Lowered limits) (same_settings ∙ at.settings_kept) (same_secrets ∙ (at.secrets ∙ sym (secrets_of-other settings first events (Lowered limits) refl)))
    (ap (λ (table : TableValue). table.in_force) same_table ∙ sym (limits_at-limits settings events limits (subst (λ (known : Settings). AreWithin known.limits limits) at.settings_kept within)))
    (Holds-in_force (table_settings_of settings) relay.table after.table limits (accepted_log settings first events) same_table at.table)

-- what a relay's settings allow, its table allows
pub AreWithin-table : (relay : Relay) (limits : Limits) → AreWithin (settings_of relay).limits limits → AreWithin relay.table.limits limits
AreWithin-table relay limits within =
    ∥∥₁_elim relay.has_log (hlevel props) (λ found. subst (λ (given : Limits). AreWithin given limits) (sym found.1.limits) within)

-- the memberships by the log are within the limits, as each relay's table is
pub IsWithin-events : (relay : Relay) (settings : Settings) (first : Secret) (events : List Event) → RelayAt relay settings first events
    → IsWithin settings.limits (memberships_now (table_settings_of settings) (accepted_log settings first events))
IsWithin-events relay settings first events at = IsWithin-log (table_settings_of settings) relay.table (accepted_log settings first events) at.table relay.within

-- a table that an answer left represents some log again
pub HasLog-answered : {E : Type 0} (terms : TableSettings) (before after : TableValue) (answer : List Change → EventAnswer) (result : Result Step E) → ∥ HasLog terms before ∥₁
    → AnswersByLog terms before after result answer → OnErr result (after ≡ before) → ∥ HasLog terms after ∥₁
HasLog-answered terms before after answer (Ok step) has_log answers same = ∥∥₁_map has_log (λ found. (_, (answers found.0 found.1).stands))
HasLog-answered terms before after answer (Err fault) has_log answers same = subst (λ (table : TableValue). ∥ HasLog terms table ∥₁) (sym same) has_log
