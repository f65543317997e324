-- The moment, the secrets and the limits that events leave.
use Rattle.std.specs.{Prelude.{ℕ, max, nat_le, ◌&&◌, Bool, if◌then◌else◌, List, Option, Some, None}, List.{fold, filter_map}}
use Rattle.response_mac.specs.{declared.secret.Secret.{Secret}, ResponseMac.{SecretsValue, secrets_after}}
use Rattle.endpoint_membership.specs.declared.limits.Limits.{Limits as LimitNumbers}
use Rattle.relay_machine.specs.declared.{event.Event.{Event, TheVariants.{Moment, Datagram, Packet, Rotate, Limits}}, settings.Settings.{Settings}}

-- the moment that an event reports, if it reports one
abbrev pub moment_in : Event → Option ℕ
moment_in (Moment moment) = Some moment
moment_in (Datagram bytes from) = None
moment_in (Packet bytes) = None
moment_in (Rotate secret) = None
moment_in (Limits limits) = None

-- the latest time that the events have reported; 0 before they report any
unfoldable pub now_of : List Event → ℕ
now_of events = fold max 0 (filter_map moment_in events)

-- the secret that an event brings, if it brings one
abbrev pub secret_in : Event → Option Secret
secret_in (Moment moment) = None
secret_in (Datagram bytes from) = None
secret_in (Packet bytes) = None
secret_in (Rotate secret) = Some secret
secret_in (Limits limits) = None

-- the secrets after the first one and those of the events, in order: as many of the newest ones as the
-- settings say (RFC 7450, section 5.3.6)
unfoldable pub secrets_of : Settings → Secret → List Event → SecretsValue
secrets_of settings first events = secrets_after settings.secrets first (filter_map secret_in events)

-- whether a number is at least 1 and at most the given one
abbrev pub is_from_one_to : ℕ → ℕ → Bool
is_from_one_to given number = nat_le 1 number && nat_le number given

-- whether each limit is
abbrev pub may_be_in_force : LimitNumbers → LimitNumbers → Bool
may_be_in_force given limits =
    is_from_one_to given.endpoints limits.endpoints
    && (is_from_one_to given.groups limits.groups && is_from_one_to given.sources limits.sources)

-- the limits that an event leaves of these; limits that no relay of the settings takes leave them
abbrev pub limits_after : Settings → LimitNumbers → Event → LimitNumbers
limits_after settings limits (Moment moment) = limits
limits_after settings limits (Datagram bytes from) = limits
limits_after settings limits (Packet bytes) = limits
limits_after settings limits (Rotate secret) = limits
limits_after settings limits (Limits new) = if may_be_in_force settings.limits new then new else limits

-- the limits in force after the events: those that came last, and the settings' before any came
unfoldable pub limits_at : Settings → List Event → LimitNumbers
limits_at settings events = fold (limits_after settings) settings.limits events

-- the settings with the limits in force after the events, by which an event is answered
abbrev pub settings_at : Settings → List Event → Settings
settings_at settings events = record settings { limits = limits_at settings events }
