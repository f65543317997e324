-- What a pair of both ends is set up with: a relay, and gateways that know it by its address.
use Rattle.std.specs.{Prelude.{◌≡◌, ◌≢◌, ◌<◌, ◌^◌, ◌||◌, ℕ, Bool, List, All, AllPairs, None}, List.{list_any}}
use Rattle.amt_values.specs.{Address.{IsAddress}, declared.{address.Ip.{Ip}, peer.Peer.{Peer}}}
use Rattle.response_mac.specs.declared.secret.Secret.{Secret}
use Rattle.gateway_machine.specs.{Answers.{same_peer}, declared.settings.GatewaySettings.{GatewaySettings}, Settings.{HasSourceOfFamily}}
use Rattle.relay_machine.specs.{declared.settings.Settings.{Settings}, Settings.{AreLawfulSettings}}
use Rattle.socket_merge.specs.History.{same_name}
use Rattle.amt_pair.specs.Queries.{HasQuerySources}

-- the port of AMT (RFC 7450, section 7.2)
abbrev pub amt_port : ℕ
amt_port = 2268

-- a gateway of a pair: its name, the peer as which the relay sees it, and its settings
pub record Host : Type 0 where
  pub name : List ℕ
  pub peer : Peer
  pub settings : GatewaySettings

-- a relay's settings and first secret, and the gateways in the order in which they were added
pub record PairSetup : Type 0 where
  pub settings : Settings
  pub secret : Secret
  pub hosts : List Host

-- the peer that the relay is: its address with the port of AMT
abbrev pub relay_peer : Settings → Peer
relay_peer settings = record { ip = settings.relay; port = amt_port }

-- a gateway of the family that discovers the relay at its own address, and may ask it as a Linux relay
abbrev pub settings_of_host : Settings → Bool → Bool → Ip → GatewaySettings
settings_of_host settings v6 linux_relay source =
    record { v6 = v6; discovery = relay_peer settings; relay = None; port = amt_port; source = source; linux_relay = linux_relay }

-- the nonce of the first message of each gateway of a pair
abbrev pub first_nonce : ℕ
first_nonce = 1

-- the address and the port fit their fields
pub record IsPeer (peer : Peer) : Type 0 where
  pub address : IsAddress peer.ip
  pub port : peer.port < 2 ^ 16

-- the gateway is one that can be added to such a relay
pub record IsHost (settings : Settings) (host : Host) : Type 0 where
  pub peer : IsPeer host.peer
  pub source : HasSourceOfFamily host.settings
  pub settings_are : host.settings ≡ settings_of_host settings host.settings.v6 host.settings.linux_relay host.settings.source

-- no two gateways have one name or one peer
pub record AreApart (hosts : List Host) : Type 0 where
  pub names : AllPairs (λ one other. one.name ≢ other.name) hosts
  pub peers : AllPairs (λ one other. one.peer ≢ other.peer) hosts

-- a relay that may be set up, and gateways that are apart
pub record IsLawfulSetup (setup : PairSetup) : Type 0 where
  pub settings : AreLawfulSettings setup.settings
  pub queries : HasQuerySources setup.settings
  pub relay : IsAddress setup.settings.relay
  pub hosts : All (IsHost setup.settings) setup.hosts
  pub apart : AreApart setup.hosts

-- the name or the peer is a gateway's
abbrev pub has_taken : List ℕ → Peer → List Host → Bool
has_taken name peer hosts = list_any (λ host. same_name name host.name || same_peer host.peer peer) hosts
