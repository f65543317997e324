-- Runs of a gateway over a script, and which scripts it can be run over.
use Rattle.std.specs.{Prelude.{List}, List.{AllByRecursion}}
use Rattle.gateway_machine.specs.{Events.{IsEventOf}, Runs.{GatewayAt}, Settings.{HasSourceOfFamily}, declared.{event.GatewayEvent.{GatewayEvent}, gateway.Gateway.{Gateway}}}
use Rattle.gateway_script.specs.{declared.script.GatewayScript.{GatewayScript}, Texts.{GatewayStart}}

-- a gateway may have its settings, and each event may happen to it
pub record IsRunnable (script : GatewayScript) : Type 0 where
  pub source : HasSourceOfFamily script.settings
  pub events : AllByRecursion (IsEventOf script.settings) script.items

-- from this start the events lead to the gateway
abbrev pub IsGatewayAfter : Gateway → GatewayStart → List GatewayEvent → Type 0
IsGatewayAfter gateway start events = GatewayAt gateway start.settings start.nonce events
