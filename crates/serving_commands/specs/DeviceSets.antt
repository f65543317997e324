-- What is seen of sets of devices, by what each device tells.
use Rattle.std.specs.Prelude.{ℕ, Option}
use Rattle.amt_ports.specs.{Devices.{feed_at, link_at, out_at, words_at}, declared.{clock.Clock.{Ghosts as ClockTells}, feed.Feed.{Ghosts as FeedTells}, link.Link.{Ghosts as LinkTells}, out_link.OutLink.{Ghosts as OutTells}, words.Words.{Ghosts as WordsTells}}}
use Rattle.gateway_serving.specs.Devices as gateways
use Rattle.relay_serving.specs.{Controls.{controls_at}, Devices.{devices_seen, outs_seen}, declared.control.Copies.{Ghosts as CopiesTell}}
use Rattle.serving_commands.specs.{Seen.{RelaySeen}, declared.opening.devices.{GatewayDevices.{GatewayDevices}, RelayDevices.{RelayDevices}}}

-- of a relay's; of what starts workers, that is how many it started, where it tells that, and how often it failed
abbrev pub relay_seen : {L F C W O P K N : Type 0} → LinkTells L → FeedTells F → ClockTells C → WordsTells W → OutTells O → (P → Option ℕ) → (P → ℕ)
    → LinkTells K → CopiesTell N → RelayDevices L F C W O P K N → RelaySeen
relay_seen link feed clock words out starts start_faults control copies set = record {
  devices = devices_seen (clock.given set.clock) (words_at words set.words) (link_at link set.link) (feed_at feed set.feed) (starts set.spawner) (start_faults set.spawner);
  control = controls_at control copies set.control;
  outs = outs_seen out.tried out.faults set.outs;
}

-- of a gateway's
abbrev pub gateway_seen : {L K O C W : Type 0} → LinkTells L → LinkTells K → OutTells O → ClockTells C → WordsTells W → GatewayDevices L K O C W → gateways.Devices
gateway_seen link control out clock words set =
    gateways.devices_seen (clock.given set.clock) (words_at words set.words) (link_at link set.link) (link_at control set.control) (out_at out set.out)
