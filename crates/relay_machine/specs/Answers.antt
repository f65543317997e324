-- What the relay answers to an event, by the events before it (RFC 7450, section 5.3).
use Rattle.std.specs.Prelude.{◌≡◌, ℕ, Bool, List}
use Rattle.amt_values.specs.EndpointValue.{EndpointValue}
use Rattle.inner_datagrams.specs.declared.head.Head.{Head}
use Rattle.response_mac.specs.declared.secret.Secret.{Secret}
use Rattle.endpoint_membership.specs.{Admission.{is_admitted}, Memberships.{rows_of}, Table.{Holds}, declared.{change.Change.{Change}, row.Row.{Row}}}
use Rattle.relay_machine.specs.{declared.{event.Event.{Event}, outcome.Outcome.{Outcome}, relay.Relay.{Relay}, sends.OneSend.{OneSend}, settings.Settings.{Settings}}, Accepted.{accepted_log}, EventAnswer.{EventAnswer, event_answer}, Events.{limits_at, now_of, secrets_of, settings_at}, Settings.{membership_interval_ms, table_settings_of}}

-- what an event comes to, what is sent and what is entered after these events: a Query has its MAC
-- under the secret that is current then, and a report is judged by the limits in force
abbrev pub answer_of : Settings → Secret → List Event → Event → EventAnswer
answer_of settings first events event =
    event_answer (settings_at settings events) (secrets_of settings first events) (now_of events) (accepted_log settings first events) event

-- what an event comes to after these events
abbrev pub outcome_of : Settings → Secret → List Event → Event → Outcome
outcome_of settings first events event = (answer_of settings first events event).outcome

-- what is sent after it
abbrev pub sends_of : Settings → Secret → List Event → Event → List OneSend
sends_of settings first events event = (answer_of settings first events event).sends

-- what the relay was set up with
abbrev pub settings_of : Relay → Settings
settings_of relay = relay.setup.settings

-- how late it is at the relay
abbrev pub moment_of : Relay → ℕ
moment_of relay = relay.table.moment

-- the relay's table represents the log by its settings
abbrev pub StandsFor : Relay → List Change → Type 0
StandsFor relay log = Holds (table_settings_of (settings_of relay)) relay.table log

-- the relay is where these events leave one of these settings that began with this secret: its
-- table represents their accepted log, and has the limits in force that they left
pub record RelayAt (relay : Relay) (settings : Settings) (first : Secret) (events : List Event) : Type 0 where
  pub settings_kept : settings_of relay ≡ settings
  pub secrets : relay.secrets ≡ secrets_of settings first events
  pub table : Holds (table_settings_of settings) relay.table (accepted_log settings first events)
  pub moment : moment_of relay ≡ now_of events
  pub force : relay.table.in_force ≡ limits_at settings events

-- a fact of settings, first secret and events holds of all those after which the relay may be
abbrev pub After : Relay → (Settings → Secret → List Event → Type 0) → Type 0
After relay Fact = (settings : Settings) (first : Secret) (events : List Event) → RelayAt relay settings first events → Fact settings first events

-- a fact holds of each log that the relay's table represents
abbrev pub ForRelayLog : Relay → (List Change → Type 0) → Type 0
ForRelayLog relay Fact = (log : List Change) → StandsFor relay log → Fact log

-- the memberships after the events
abbrev pub rows_after : Settings → Secret → List Event → List Row
rows_after settings first events =
    rows_of (membership_interval_ms settings) (now_of events) (accepted_log settings first events)

-- after the events the newest record of the endpoint that speaks of the packet's source wants it in
-- the packet's group
abbrev pub wants_after : Settings → Secret → List Event → Head → EndpointValue → Bool
wants_after settings first events head endpoint =
    is_admitted (membership_interval_ms settings) (accepted_log settings first events) (record { endpoint = endpoint; group = head.group }) head.source (now_of events)
