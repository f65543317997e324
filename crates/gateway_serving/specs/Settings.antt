-- What the settings file of a gateway makes of it.
use Rattle.std.specs.Prelude.{◌≤◌, ℕ, List, ◌∷◌, All, map}
use Rattle.amt_config.specs.declared.config.{GatewayConfig.{GatewayConfig}, Join.{Join}}
use Rattle.gateway_machine.specs.{Events.{IsEventOf}, Settings.{HasSourceOfFamily}, declared.{event.GatewayEvent.{GatewayEvent, TheVariants.{Moment, Open}}, settings.GatewaySettings.{GatewaySettings}}}

abbrev pub settings_of : GatewayConfig → GatewaySettings
settings_of config = record {
  v6 = config.v6;
  discovery = config.discovery;
  relay = config.relay;
  port = config.port;
  source = config.source;
  linux_relay = config.linux_relay;
}

-- the socket call that a join makes
abbrev pub opening_of : Join → GatewayEvent
opening_of join = Open join.name join.group join.filter

-- what happens before the first turn: it becomes this late, and the joins are opened, in order
abbrev pub first_events : GatewayConfig → ℕ → List GatewayEvent
first_events config moment = Moment moment ∷ map opening_of config.joins

-- reports go out from an address of the family, and the joins may happen to such a gateway
pub record IsLawfulConfig (config : GatewayConfig) : Type 0 where
  pub source : HasSourceOfFamily (settings_of config)
  pub joins : All (λ join. IsEventOf (settings_of config) (opening_of join)) config.joins

-- so many turns a run may have
abbrev pub AreTurns : ℕ → Type 0
AreTurns turns = (1 ≤ turns) × (turns ≤ 1099511627776)
