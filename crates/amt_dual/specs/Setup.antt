-- What a relay and its dual gateways are set up with: two machines of one name and one peer for each gateway.
use Rattle.std.specs.{Prelude.{◌≢◌, ◌<◌, ◌^◌, ℕ, Bool, true, false, List, [], ◌∷◌, All, AllPairs, if◌then◌else◌}, List.{flat_map}}
use Rattle.amt_values.specs.{Address.{IsAddress}, declared.{address.Ip.{Ip, TheVariants.{V4, V6}}, peer.Peer.{Peer}}}
use Rattle.response_mac.specs.declared.secret.Secret.{Secret}
use Rattle.relay_machine.specs.{declared.settings.Settings.{Settings}, Settings.{AreLawfulSettings}}
use Rattle.amt_pair.specs.{Queries.{HasQuerySources}, Setup.{Host, IsPeer, PairSetup, first_nonce, settings_of_host}}
use Rattle.amt_dual.specs.Answers.{nonce_for}

-- a dual gateway: its name, the peer as which the relay sees both machines, and the sources of their reports
pub record DualHost : Type 0 where
  pub name : List ℕ
  pub peer : Peer
  pub source4 : ℕ
  pub source6 : ℕ

-- a relay's settings and first secret, and the gateways in the order in which they were added
pub record DualSetup : Type 0 where
  pub settings : Settings
  pub secret : Secret
  pub hosts : List DualHost

-- the source of a machine's reports
abbrev pub source_by : DualHost → Bool → Ip
source_by host v6 = if v6 then V6 host.source6 else V4 host.source4

-- the machine of a family: it discovers the relay at its own address, as a gateway of that family alone would
abbrev pub machine_of : Settings → Bool → DualHost → Host
machine_of settings v6 host = record { name = host.name; peer = host.peer; settings = settings_of_host settings v6 false (source_by host v6) }

-- the machines of a gateway, of which the IPv4 one comes first
abbrev pub machines_of : Settings → DualHost → List Host
machines_of settings host = machine_of settings false host ∷ machine_of settings true host ∷ []

-- all machines at the relay
abbrev pub machines_in : DualSetup → PairSetup
machines_in setup = record { settings = setup.settings; secret = setup.secret; hosts = flat_map (machines_of setup.settings) setup.hosts }

-- the nonce of a machine's first message: 1 for IPv4, and 2^31 + 1 for IPv6
abbrev pub first_of : Host → ℕ
first_of host = nonce_for first_nonce host.settings.v6

-- the peer and the sources fit their fields
pub record IsDualHost (host : DualHost) : Type 0 where
  pub peer : IsPeer host.peer
  pub source4 : host.source4 < 2 ^ 32
  pub source6 : host.source6 < 2 ^ 128

-- no two gateways have one name or one peer
pub record AreDualApart (hosts : List DualHost) : Type 0 where
  pub names : AllPairs (λ one other. one.name ≢ other.name) hosts
  pub peers : AllPairs (λ one other. one.peer ≢ other.peer) hosts

-- a relay that may be set up, and gateways that are apart
pub record IsLawfulDualSetup (setup : DualSetup) : Type 0 where
  pub settings : AreLawfulSettings setup.settings
  pub queries : HasQuerySources setup.settings
  pub relay : IsAddress setup.settings.relay
  pub hosts : All IsDualHost setup.hosts
  pub apart : AreDualApart setup.hosts
