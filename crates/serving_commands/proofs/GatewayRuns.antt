-- A run on devices that were opened and given back, put together.
use Rattle.std.proofs.Common.{◌≡◌, ℕ, List, Option, IsSome}
use Rattle.amt_config.specs.declared.config.GatewayConfig.{GatewayConfig}
use Rattle.serving_commands.{specs.{Sets.{TakesFirst, less_room, more_room}, declared.opening.{devices.DeviceSet.TheVariants.{Gateway as OfGateway}, live.Live.{Ghosts as LiveTells}}, GatewayOpenings.{opening_by}, GatewayRunning.{Runs, RunsBy}, Kinds.{gateway_file}, Reading.{IsConfigured}}, proofs.Lending.{lent}}
use Rattle.amt_ports.specs.Told.{Appends}
use Rattle.gateway_serving.specs.{Devices.{Devices}, Serving.{Serves}, declared.served.GatewayServed.{GatewayServed}}

module _ {V R G : Type 0} (live : LiveTells V R G) (seen : G → Devices) where
  pub ran : (config : GatewayConfig) (turns : ℕ) (before between after : V) (opened left : G) (report : GatewayServed)
      → Appends (live.asked before) (live.asked between) (opening_by config) → TakesFirst (live.sets before) (live.sets between) (OfGateway opened)
      → (IsSome (live.asked before) → IsSome (live.asked between)) → live.returned between ≡ live.returned before
      → live.room between ≡ more_room (live.room before) → Appends (live.returned between) (live.returned after) (OfGateway left)
      → (IsSome (live.returned between) → IsSome (live.returned after)) → live.room after ≡ less_room (live.room between)
      → live.sets after ≡ live.sets between → live.asked after ≡ live.asked between
      → Serves config turns (seen opened) (seen left) report → RunsBy live seen config turns before after report
  ran config turns before between after opened left report asked first tells returned more back tells_back less sets asked_after serves = record {
    opened = opened;
    left = left;
    lent = lent live (opening_by config) (OfGateway opened) (OfGateway left) before between after asked first tells returned more back tells_back less sets asked_after;
    serves = serves;
  }

  pub ran_by : (content : Option (List ℕ)) (config : GatewayConfig) (turns : ℕ) (before after : V) (report : GatewayServed)
      → IsConfigured gateway_file content config → RunsBy live seen config turns before after report → Runs live seen content turns before after report
  ran_by content config turns before after report configured runs = record { config = config; configured = configured; runs = runs }
