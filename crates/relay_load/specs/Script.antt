-- The relay script that a number makes: so many Updates, each from another endpoint, and then a packet to
-- each group.
use Rattle.std.specs.{Prelude.{ℕ, List, ◌∷◌, ◌++◌, map}, List.{range_with_len}}
use Rattle.amt_values.specs.declared.address.Ip.TheVariants.{V4}
use Rattle.amt_script.specs.declared.script.RelayItem.TheVariants as items
use Rattle.amt_script.specs.declared.script.RelayScript.{RelayScript}
use Rattle.relay_machine.specs.{declared.{event.Event.{Event, TheVariants.{Moment}}, settings.Settings.{Settings}}, Settings.{default_settings}}
use Rattle.relay_load.specs.{Packets.{packet_at}, Updates.{load_secret, update_at}}

-- the defaults of a relay at 192.0.2.1, with room for so many endpoints, 4 groups of each and 4 sources of
-- each group
abbrev pub load_settings : ℕ → Settings
load_settings count = record (default_settings (V4 0xc0000201)) { limits = record { endpoints = count; groups = 4; sources = 4 } }

-- the Updates, in order
abbrev pub load_updates : ℕ → ℕ → List Event
load_updates seed count = map (update_at seed) (range_with_len 1 count)

-- the packets, one to each of the 16 groups
unfoldable pub load_packets : List Event
load_packets = map packet_at (range_with_len 1 16)

-- moment 0, the Updates, the packets
abbrev pub load_events : ℕ → ℕ → List Event
load_events seed count = Moment 0 ∷ (load_updates seed count ++ load_packets)

-- the script, in which nothing is shown
unfoldable pub load_script_of : ℕ → ℕ → RelayScript
load_script_of seed count = record {
  settings = load_settings count;
  secret = load_secret;
  items = map items.Event (load_events seed count);
}
