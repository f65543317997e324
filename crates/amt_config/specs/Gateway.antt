-- The settings file of a gateway.
use Rattle.std.specs.{Prelude.{ℕ, List, [], ◌∷◌, codes, Option, Some, None, if◌then◌else◌}, Option.{option_and_then}, Str.{bytes_eq}}
use Rattle.amt_values.specs.{Text.{IsPeerText}}
use Rattle.group_records.specs.declared.family.Family.{Family, TheVariants.{V4, V6}}
use Rattle.relay_machine.specs.declared.number_key.NumberRange.{NumberRange}
use Rattle.script_lines.specs.{Form.{IsAddressText, IsFamilyText, a_family, a_peer, an_address_of}, Texts.{family_text}}
use Rattle.socket_merge.specs.FullReport.{family_by}
use Rattle.gateway_script.specs.declared.kind.Key.TheVariants as words
use Rattle.gateway_script.specs.{Row.{key_word}, Settling.{port_in}}
use Rattle.toml.specs.Data.{Members, as_str}
use Rattle.amt_config.specs.{declared.{config.{GatewayConfig.{GatewayConfig}, Join.{Join}}, fault.ConfigFault.{ConfigFault}}, Join.{AreJoins, FailsInJoins}, Key.{HasBoolean, HasOptional, HasWholeNumber, HasTables, HasText, Key, a_boolean, a_text, a_whole, optional, read_at, report_range, required, some_tables}, Table.{AreKnown, IsFirstFaultOfFile, IsFile, IsFirstFault, key_words}}

-- AMT's own port is the default (RFC 7450, section 7.2)
abbrev pub port_range : NumberRange
port_range = record { least = 0; most = 65535; default = port_in None }

-- the keys of a gateway's file, in the order in which their faults are told, for a gateway of the family,
-- where that is known; those that a script sets too have the same words
abbrev pub gateway_keys : Option Family → List Key
gateway_keys family =
    required (key_word words.Family) (a_text a_family)
    ∷ required (codes "listen") (a_text a_peer)
    ∷ required (codes "deliver") (a_text a_peer)
    ∷ required (codes "control") (a_text a_peer)
    ∷ required (key_word words.Discovery) (a_text a_peer)
    ∷ required (key_word words.Source) (a_text (an_address_of family))
    ∷ optional (key_word words.Relay) (a_text a_peer)
    ∷ optional (key_word words.Port) (a_whole port_range)
    ∷ optional (key_word words.LinuxRelay) a_boolean
    ∷ optional (codes "report_seconds") (a_whole report_range)
    ∷ optional (codes "join") some_tables
    ∷ []

-- the family of this text
abbrev pub family_of_text : List ℕ → Option Family
family_of_text text =
    if bytes_eq text (family_text V4) then Some V4 else (if bytes_eq text (family_text V6) then Some V6 else None)

-- the family that the table gives
abbrev pub table_family : Members → Option Family
table_family table = option_and_then family_of_text (read_at as_str (key_word words.Family) table)

-- the joins are those of the key's tables
pub record HasJoins (family : Option Family) (table : Members) (joins : List Join) : Type 0 where
  pub tables : List Members
  pub there : HasTables (codes "join") table tables
  pub are : AreJoins family [] tables joins

-- each field is the value of its key, or the key's default
pub record HasGatewayValues (table : Members) (config : GatewayConfig) : Type 0 where
  pub family : HasText (key_word words.Family) table (IsFamilyText (family_by config.v6))
  pub listen : HasText (codes "listen") table (IsPeerText config.listen)
  pub deliver : HasText (codes "deliver") table (IsPeerText config.deliver)
  pub control : HasText (codes "control") table (IsPeerText config.control)
  pub discovery : HasText (key_word words.Discovery) table (IsPeerText config.discovery)
  pub source : HasText (key_word words.Source) table (IsAddressText (Some (family_by config.v6)) config.source)
  pub relay : HasOptional (key_word words.Relay) table IsPeerText config.relay
  pub port : HasWholeNumber (key_word words.Port) port_range table config.port
  pub linux_relay : HasBoolean (key_word words.LinuxRelay) table config.linux_relay
  pub report : HasWholeNumber (codes "report_seconds") report_range table config.report_seconds
  pub joins : HasJoins (Some (family_by config.v6)) table config.joins

-- the table is a gateway's: its keys are known, and its values are these
pub record GatewayConfigOf (table : Members) (config : GatewayConfig) : Type 0 where
  pub known : AreKnown (key_words (gateway_keys None)) table
  pub values : HasGatewayValues table config

-- the first fault in the joins
pub record IsFaultInJoins (table : Members) (fault : ConfigFault) : Type 0 where
  pub tables : List Members
  pub there : HasTables (codes "join") table tables
  pub fails : FailsInJoins (table_family table) [] tables fault

-- the first fault of a gateway's table
abbrev pub IsGatewayTableFault : Members → ConfigFault → Type 0
IsGatewayTableFault table fault = IsFirstFault (gateway_keys (table_family table)) IsFaultInJoins table fault

-- the octets are the file of a gateway with this configuration
abbrev pub IsGatewayFile : GatewayConfig → List ℕ → Type 0
IsGatewayFile config bytes = IsFile (λ table. GatewayConfigOf table config) bytes

-- this is the first fault of the octets
abbrev pub IsGatewayFault : ConfigFault → List ℕ → Type 0
IsGatewayFault fault bytes = IsFirstFaultOfFile IsGatewayTableFault fault bytes
