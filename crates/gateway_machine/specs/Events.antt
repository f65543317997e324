-- Which events may happen to a gateway.
use Rattle.std.specs.Prelude.{◌≡◌, ◌≤◌, true, length, All}
use Rattle.amt_values.specs.Group.{is_forwardable}
use Rattle.source_filter.specs.Filter.{FilterValue}
use Rattle.group_records.specs.Written.{is_of_family}
use Rattle.gateway_machine.specs.{declared.{event.GatewayEvent.{GatewayEvent, TheVariants.{Nonce, Datagram, Open, Change}}, settings.GatewaySettings.{GatewaySettings}}, Settings.{family_of}}

-- the sources of a socket's filter are of the gateway's family, and their number can be told
pub record IsFilterOf (settings : GatewaySettings) (filter : FilterValue) : Type 0 where
  pub family : All (λ source. is_of_family (family_of settings) source ≡ true) filter.sources
  pub items : length filter.sources ≤ 16777216

-- a datagram of at most 65,535 octets, as no UDP payload has more; a socket of a group of the gateway's
-- family that packets are forwarded to
abbrev pub IsEventOf : GatewaySettings → GatewayEvent → Type 0
IsEventOf settings (Datagram from bytes) = length bytes ≤ 65535
IsEventOf settings (Open name group filter) =
    (is_forwardable group ≡ true) × (is_of_family (family_of settings) group ≡ true) × IsFilterOf settings filter
IsEventOf settings (Change name filter) = IsFilterOf settings filter
IsEventOf settings event = Unit {0}

-- the event brings a nonce
abbrev pub IsDraw : GatewayEvent → Type 0
IsDraw (Nonce nonce) = Unit {0}
IsDraw event = ⊥
