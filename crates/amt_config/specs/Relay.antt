-- The settings file of a relay.
use Rattle.std.specs.{Prelude.{◌≡◌, ◌*◌, ◌<◌, ℕ, Bool, false, List, [], ◌∷◌, codes}, Option.{unwrap_or}}
use Rattle.amt_values.specs.{declared.address.Ip.TheVariants.{V4, V6}, Text.{IsIpText, IsPeerText}, Conditions.{First}}
use Rattle.relay_machine.specs.{declared.{number_key.{NumberKey.{NumberKey, TheVariants.{Robustness, QuerySeconds, ResponseTenths, Secrets, Endpoints, Groups, Sources, PacketLimit}}, NumberRange.{NumberRange}}, settings.Settings.{Settings}}, Settings.{AreLawfulSettings, HasCode, HasMldCode, default_settings, number_at, number_row}}
use Rattle.script_lines.specs.Form.{a_peer, an_address, an_address4, an_address6}
use Rattle.amt_script.specs.declared.kind.Key.TheVariants as words
use Rattle.amt_script.specs.Row.{key_word, number_word}
use Rattle.toml.specs.Data.{Members, as_bool}
use Rattle.amt_config.specs.{declared.{config.RelayConfig.{RelayConfig}, fault.ConfigFault.{ConfigFault}}, Key.{HasBoolean, HasOptional, HasText, HasTextOr, HasWholeNumber, Key, a_boolean, a_guarded_peer, a_text, a_whole, optional, read_at, report_range, required}, Loopback.{IsGuardedText}, Table.{AreKnown, IsFirstFaultOfFile, IsFile, IsFirstFault, key_words}}
use Rattle.amt_config.specs.declared.fault.ConfigFault.TheVariants as faults

-- the row of one of the relay's numbers
abbrev pub range_of : NumberKey → NumberRange
range_of key = record { least = (number_row key).least; most = (number_row key).most; default = (number_row key).default }

-- the seconds from one secret to the next
abbrev pub rotate_range : NumberRange
rotate_range = record { least = 1; most = 1000000; default = 7200 }

-- the threads that copy packets
abbrev pub workers_range : NumberRange
workers_range = record { least = 0; most = 64; default = 4 }

abbrev pub number_key : NumberKey → Key
number_key key = optional (number_word key) (a_whole (range_of key))

-- the keys of a relay's file, in the order in which their faults are told; those that a script sets too
-- have the same words. A control socket is on the loopback unless it may be anywhere
abbrev pub relay_keys : Bool → List Key
relay_keys anywhere =
    required (key_word words.Relay) (a_text an_address)
    ∷ required (codes "listen") (a_text a_peer)
    ∷ required (codes "feed") (a_text a_peer)
    ∷ optional (codes "control_anywhere") a_boolean
    ∷ optional (codes "control") (a_guarded_peer anywhere)
    ∷ optional (key_word words.Query4) (a_text an_address4)
    ∷ optional (key_word words.Query6) (a_text an_address6)
    ∷ number_key Robustness
    ∷ number_key QuerySeconds
    ∷ number_key ResponseTenths
    ∷ number_key Endpoints
    ∷ number_key Groups
    ∷ number_key Sources
    ∷ number_key PacketLimit
    ∷ optional (codes "rotate_seconds") (a_whole rotate_range)
    ∷ number_key Secrets
    ∷ optional (codes "workers") (a_whole workers_range)
    ∷ optional (key_word words.LinuxGateways) a_boolean
    ∷ optional (codes "report_seconds") (a_whole report_range)
    ∷ []

-- whether the table says that a control socket may be anywhere
abbrev pub table_anywhere : Members → Bool
table_anywhere table = unwrap_or (read_at as_bool (codes "control_anywhere") table) false

-- the settings of the relay itself
abbrev pub settings_of : RelayConfig → Settings
settings_of config = record {
  relay = config.relay;
  query4 = config.query4;
  query6 = config.query6;
  robustness = config.robustness;
  query_seconds = config.query_seconds;
  response_tenths = config.response_tenths;
  secrets = config.secrets;
  limits = record { endpoints = config.endpoints; groups = config.groups; sources = config.sources };
  packet_limit = config.packet_limit;
  linux_gateways = config.linux_gateways;
}

-- each field is the value of its key, or the key's default
pub record HasValues (table : Members) (config : RelayConfig) : Type 0 where
  pub relay : HasText (key_word words.Relay) table (IsIpText config.relay)
  pub listen : HasText (codes "listen") table (IsPeerText config.listen)
  pub feed : HasText (codes "feed") table (IsPeerText config.feed)
  pub anywhere : HasBoolean (codes "control_anywhere") table config.control_anywhere
  pub control : HasOptional (codes "control") table (IsGuardedText config.control_anywhere) config.control
  pub query4 : HasTextOr (key_word words.Query4) table (IsIpText (V4 config.query4)) (config.query4 ≡ (default_settings config.relay).query4)
  pub query6 : HasTextOr (key_word words.Query6) table (IsIpText (V6 config.query6)) (config.query6 ≡ (default_settings config.relay).query6)
  pub numbers : (key : NumberKey) → HasWholeNumber (number_word key) (range_of key) table (number_at (settings_of config) key)
  pub rotate : HasWholeNumber (codes "rotate_seconds") rotate_range table config.rotate_seconds
  pub workers : HasWholeNumber (codes "workers") workers_range table config.workers
  pub linux_gateways : HasBoolean (key_word words.LinuxGateways) table config.linux_gateways
  pub report : HasWholeNumber (codes "report_seconds") report_range table config.report_seconds

-- the table is a relay's: its keys are known, its values are these, and together a relay may have them
pub record RelayConfigOf (table : Members) (config : RelayConfig) : Type 0 where
  pub known : AreKnown (key_words (relay_keys false)) table
  pub values : HasValues table config
  pub lawful : AreLawfulSettings (settings_of config)

-- what is wrong with numbers each of which is in its range: together the limits allow more than 16,777,216
-- sources, or a General Query can't carry the time (RFC 3376, sections 4.1.1 and 4.1.7; RFC 3810, section
-- 5.1.3)
abbrev pub FailsTogether : RelayConfig → NumberKey → Type 0
FailsTogether config Endpoints = 16777216 < config.endpoints * config.groups * config.sources
FailsTogether config QuerySeconds = HasCode config.query_seconds → ⊥
FailsTogether config ResponseTenths = HasCode config.response_tenths × HasMldCode (config.response_tenths * 100) → ⊥
FailsTogether config key = ⊥

-- the order in which these faults are tried
abbrev pub together_order : List NumberKey
together_order = Endpoints ∷ QuerySeconds ∷ ResponseTenths ∷ []

-- the first of these faults, as one of its key's range
pub record IsFaultTogether (table : Members) (fault : ConfigFault) : Type 0 where
  pub config : RelayConfig
  pub values : HasValues table config
  pub key : NumberKey
  pub first : First (FailsTogether config) together_order key
  pub is : fault ≡ faults.Range (number_word key)

-- the first fault of a relay's table
abbrev pub IsRelayTableFault : Members → ConfigFault → Type 0
IsRelayTableFault table fault = IsFirstFault (relay_keys (table_anywhere table)) IsFaultTogether table fault

-- the octets are the file of a relay with this configuration
abbrev pub IsRelayFile : RelayConfig → List ℕ → Type 0
IsRelayFile config bytes = IsFile (λ table. RelayConfigOf table config) bytes

-- this is the first fault of the octets
abbrev pub IsRelayFault : ConfigFault → List ℕ → Type 0
IsRelayFault fault bytes = IsFirstFaultOfFile IsRelayTableFault fault bytes
