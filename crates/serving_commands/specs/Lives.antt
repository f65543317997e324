-- What a place tells where devices are opened, and what is seen of its sets of devices.
use Rattle.gateway_serving.specs.Devices.{Devices}
use Rattle.serving_commands.specs.{Seen.{RelaySeen}, declared.opening.live.Live.{Ghosts as LiveTells}}

-- Of sets R for relays and sets G for gateways.
pub record Tells (V R G : Type 0) : Type 1 where
  pub live : LiveTells V R G
  pub relay : R → RelaySeen
  pub gateway : G → Devices

abbrev pub tells : {V R G : Type 0} → LiveTells V R G → (R → RelaySeen) → (G → Devices) → Tells V R G
tells live relay gateway = record { live = live; relay = relay; gateway = gateway }
