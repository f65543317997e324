-- What is seen of the devices of a serving relay, before a call and after it.
use Rattle.std.specs.Prelude.{ℕ, List, map, Option}
use Rattle.amt_ports.specs.{Sends.{TriedSend}, Devices.{FeedSeen, LinkSeen, OutSeen, WordsSeen, out_seen}}

-- of outs, in order, by what they tell of their tried sends and how often they failed
abbrev pub outs_seen : {O : Type 0} → (O → Option (List TriedSend)) → (O → ℕ) → List O → List OutSeen
outs_seen tried faults outs = map (λ out. out_seen (tried out) (faults out)) outs

-- of all devices of a run but its outs: the moments that the clock gave, and how many tasks were started, where
-- they are told, and how often a start failed
pub record Devices : Type 0 where
  pub clock : Option (List ℕ)
  pub words : WordsSeen
  pub link : LinkSeen
  pub feed : FeedSeen
  pub starts : Option ℕ
  pub start_faults : ℕ

abbrev pub devices_seen : Option (List ℕ) → WordsSeen → LinkSeen → FeedSeen → Option ℕ → ℕ → Devices
devices_seen clock words link feed starts start_faults =
    record { clock = clock; words = words; link = link; feed = feed; starts = starts; start_faults = start_faults }
