-- The kinds of settings files.
use Rattle.std.specs.Prelude.{ℕ, List}
use Rattle.amt_config.specs.{Gateway.{IsGatewayFault, IsGatewayFile}, Relay.{IsRelayFault, IsRelayFile}, declared.{config.{GatewayConfig.{GatewayConfig}, RelayConfig.{RelayConfig}}, fault.ConfigFault.{ConfigFault}}}

-- A kind of settings file.
-- `IsFile config octets`: the octets are a file with this configuration.
-- `IsFault fault octets`: this is their first fault.
pub record SettingsKind (C : Type 0) : Type 1 where
  pub IsFile : C → List ℕ → Type 0
  pub IsFault : ConfigFault → List ℕ → Type 0

-- the settings file of a relay
abbrev pub relay_file : SettingsKind RelayConfig
relay_file = record { IsFile = IsRelayFile; IsFault = IsRelayFault }

-- the settings file of a gateway
abbrev pub gateway_file : SettingsKind GatewayConfig
gateway_file = record { IsFile = IsGatewayFile; IsFault = IsGatewayFault }
