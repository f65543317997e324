-- What a gateway's script sets: what was given, and a default for the rest.
use Rattle.std.specs.Prelude.{◌≡◌, ℕ, Bool, true, false, List, Option, Some, None}
use Rattle.amt_values.specs.declared.{address.Ip.{Ip}, peer.Peer.{Peer}}
use Rattle.group_records.specs.declared.family.Family.{Family as AddressFamily, TheVariants.{V4, V6}}
use Rattle.gateway_machine.specs.declared.settings.GatewaySettings.{GatewaySettings}
use Rattle.gateway_script.specs.declared.kind.Key.TheVariants as keys
use Rattle.gateway_script.specs.{declared.setting.Setting.{Setting, TheVariants.{Family, Discovery, Source, Relay, Port, Nonce, LinuxRelay}}, Setting.{set_at}}

-- the family that was given
abbrev pub family_in : Option Setting → Option AddressFamily
family_in (Some (Family family)) = Some family
family_in other = None

-- the relay discovery address and its port
abbrev pub discovery_in : Option Setting → Option Peer
discovery_in (Some (Discovery peer)) = Some peer
discovery_in other = None

-- the source of reports
abbrev pub source_in : Option Setting → Option Ip
source_in (Some (Source ip)) = Some ip
source_in other = None

-- the relay, where one was given
abbrev pub relay_in : Option Setting → Option Peer
relay_in (Some (Relay peer)) = Some peer
relay_in other = None

-- the port of relays that Advertisements name, AMT's own by default (RFC 7450, section 7.2)
abbrev pub port_in : Option Setting → ℕ
port_in (Some (Port port)) = port
port_in other = 2268

-- the first nonce
abbrev pub nonce_in : Option Setting → ℕ
nonce_in (Some (Nonce nonce)) = nonce
nonce_in other = 1

-- whether the relay is Linux's own, which it isn't by default
abbrev pub linux_relay_in : Option Setting → Bool
linux_relay_in (Some (LinuxRelay flag)) = flag
linux_relay_in other = false

-- the family of a gateway whose settings these are
abbrev pub family_given : List Setting → Option AddressFamily
family_given given = family_in (set_at given keys.Family)

-- the family is that of IPv6
abbrev pub is_v6 : AddressFamily → Bool
is_v6 V4 = false
is_v6 V6 = true

-- what must be given was given, and these are the settings and the first nonce
pub record Settles (given : List Setting) (values : GatewaySettings) (nonce : ℕ) : Type 0 where
  pub family : AddressFamily
  pub family_is : family_given given ≡ Some family
  pub v6 : values.v6 ≡ is_v6 family
  pub discovery : discovery_in (set_at given keys.Discovery) ≡ Some values.discovery
  pub source : source_in (set_at given keys.Source) ≡ Some values.source
  pub relay : values.relay ≡ relay_in (set_at given keys.Relay)
  pub port : values.port ≡ port_in (set_at given keys.Port)
  pub linux_relay : values.linux_relay ≡ linux_relay_in (set_at given keys.LinuxRelay)
  pub first_nonce : nonce ≡ nonce_in (set_at given keys.Nonce)
