-- Which events a relay of these settings takes, and which of them carry a payload.
use Rattle.std.specs.Prelude.{◌≤◌, length}
use Rattle.endpoint_membership.specs.Limits.{AreWithin}
use Rattle.relay_machine.specs.declared.{event.Event.{Event, TheVariants.{Moment, Datagram, Packet, Rotate, Limits}}, settings.Settings.{Settings}}

-- at most 65,535 octets: no UDP payload has more, and no IPv4 packet; and limits of at least 1, and at
-- most those of the settings
abbrev pub IsEvent : Settings → Event → Type 0
IsEvent settings (Moment moment) = Unit {0}
IsEvent settings (Datagram bytes from) = length bytes ≤ 65535
IsEvent settings (Packet bytes) = length bytes ≤ 65535
IsEvent settings (Rotate secret) = Unit {0}
IsEvent settings (Limits limits) = AreWithin settings.limits limits

-- the event is a datagram or a packet
abbrev pub IsPayload : Event → Type 0
IsPayload (Moment moment) = ⊥
IsPayload (Datagram bytes from) = Unit {0}
IsPayload (Packet bytes) = Unit {0}
IsPayload (Rotate secret) = ⊥
IsPayload (Limits limits) = ⊥
