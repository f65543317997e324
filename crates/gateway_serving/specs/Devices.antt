-- What is seen of the devices of a serving gateway, before a call and after it.
use Rattle.std.specs.Prelude.{ℕ, List, Option}
use Rattle.amt_ports.specs.Devices.{LinkSeen, OutSeen, WordsSeen}

-- the moments that the clock gave, where it tells them, and the other devices
pub record Devices : Type 0 where
  pub clock : Option (List ℕ)
  pub words : WordsSeen
  pub link : LinkSeen
  pub control : LinkSeen
  pub out : OutSeen

abbrev pub devices_seen : Option (List ℕ) → WordsSeen → LinkSeen → LinkSeen → OutSeen → Devices
devices_seen clock words link control out = record { clock = clock; words = words; link = link; control = control; out = out }
