use Rattle.std.{proofs.Common.{◌≡◌, ◌++◌, map}, specs.List.{AllByRecursion, range_with_len}}
use Rattle.amt_script.specs.{declared.script.RelayItem.TheVariants.{Event as EventItem}, Running.{IsItem}}
use Rattle.relay_machine.specs.declared.settings.Settings.{Settings}
use Rattle.relay_load.specs.Packets.{packet_at}
use Rattle.relay_load.proofs.packets.append_packets.Given as goal

abbrev pub invariant-loop-before : goal.invariant-loop-before
invariant-loop-before l = record {
  packets : l.items ≡ l.initial.items ++ map EventItem (map packet_at (range_with_len 1 l.before));
  sized : (settings : Settings) → AllByRecursion (IsItem settings) l.initial.items → AllByRecursion (IsItem settings) l.items;
}
