-- A run of a gateway on devices that are opened for it.
use Rattle.std.specs.Prelude.{ℕ, List, Option}
use Rattle.amt_config.specs.declared.config.GatewayConfig.{GatewayConfig}
use Rattle.serving_commands.specs.{declared.opening.{devices.DeviceSet.TheVariants.{Gateway as OfGateway}, live.Live.{Ghosts as LiveTells}}, GatewayOpenings.{opening_by}, Kinds.{gateway_file}, Openings.{IsLent}, Reading.{IsConfigured}}
use Rattle.gateway_serving.specs.{Devices.{Devices}, Serving.{Serves}, declared.served.GatewayServed.{GatewayServed}}

-- by what the place tells, and what is seen of a set of devices
module _ {V R G : Type 0} (live : LiveTells V R G) (seen : G → Devices) where
  -- The gateway of this configuration ran for so many turns at most on one set of devices, which was then given back.
  pub record RunsBy (config : GatewayConfig) (turns : ℕ) (before after : V) (report : GatewayServed) : Type 0 where
    -- the set that was opened, and what the run left of it
    pub opened : G
    pub left : G
    pub lent : IsLent live (opening_by config) (OfGateway opened) (OfGateway left) before after
    -- the run
    pub serves : Serves config turns (seen opened) (seen left) report

  -- the gateway of the settings file's configuration ran for so many turns at most
  pub record Runs (content : Option (List ℕ)) (turns : ℕ) (before after : V) (report : GatewayServed) : Type 0 where
    pub config : GatewayConfig
    pub configured : IsConfigured gateway_file content config
    pub runs : RunsBy config turns before after report
