-- Which Updates and Teardowns change the memberships at a relay (RFC 7450, section 5.3.3).
use Rattle.std.specs.Prelude.{◌≡◌, ℕ, true, List, Some}
use Rattle.amt_values.specs.{Endpoint.{endpoint_of}, EndpointValue.{EndpointValue}, declared.{mac.Mac48.{Mac48}, peer.Peer.{Peer}}}
use Rattle.amt_messages.specs.{Layout.{Spells}, declared.message.Message.TheVariants.{Teardown, Update}}
use Rattle.response_mac.specs.{ResponseMac.{IsGood}, declared.secret.Secret.{Secret}}
use Rattle.source_filter.specs.declared.record.Record.{Record}
use Rattle.endpoint_membership.specs.{Memberships.{is_live}, Table.{ReportFits, memberships_now}}
use Rattle.relay_machine.specs.{declared.{event.Event.{Event, TheVariants.{Datagram}}, settings.Settings.{Settings}}, Accepted.{accepted_log}, Events.{now_of, secrets_of, settings_at}, Lawful.{IsLawful}, Settings.{table_settings_of}, Updates.{forwardable_records}}

-- the event is an Update of the endpoint: its response MAC is good after these events, it carries a
-- lawful report of these records, and those of them on groups that are forwarded fit the limits in
-- force: they leave no more than these, or no more than there is without them
pub record IsAcceptedUpdate (settings : Settings) (first : Secret) (events : List Event) (event : Event) (endpoint : EndpointValue) (records : List Record) : Type 0 where
  pub from : Peer
  pub bytes : List ℕ
  pub mac : Mac48
  pub nonce : ℕ
  pub inner : List ℕ
  pub came : event ≡ Datagram bytes from
  pub source : endpoint_of from ≡ Some endpoint
  pub spelled : Spells (Update mac nonce inner) bytes
  pub good : IsGood (secrets_of settings first events) endpoint nonce mac
  pub lawful : IsLawful inner records
  pub fits : ReportFits (table_settings_of (settings_at settings events)) (accepted_log settings first events) endpoint (forwardable_records records) (now_of events)

-- the event is such an Update, of some endpoint and records
abbrev pub IsSomeAcceptedUpdate : Settings → Secret → List Event → Event → Type 0
IsSomeAcceptedUpdate settings first events event =
    (endpoint : EndpointValue) × (records : List Record) × IsAcceptedUpdate settings first events event endpoint records

-- the event is a Teardown, of whatever endpoint, that names this one: its response MAC is good for
-- the endpoint that it names, which has a membership. Where it has none, the log keeps the clearing too,
-- and no membership changes
pub record IsAcceptedTeardown (settings : Settings) (first : Secret) (events : List Event) (event : Event) (named : EndpointValue) : Type 0 where
  pub from : Peer
  pub bytes : List ℕ
  pub sender : EndpointValue
  pub mac : Mac48
  pub nonce : ℕ
  pub came : event ≡ Datagram bytes from
  pub source : endpoint_of from ≡ Some sender
  pub spelled : Spells (Teardown mac nonce named) bytes
  pub good : IsGood (secrets_of settings first events) named nonce mac
  pub live : is_live named (memberships_now (table_settings_of settings) (accepted_log settings first events)) ≡ true

-- the event is such a Teardown, of some endpoint
abbrev pub IsSomeAcceptedTeardown : Settings → Secret → List Event → Event → Type 0
IsSomeAcceptedTeardown settings first events event =
    (named : EndpointValue) × IsAcceptedTeardown settings first events event named
