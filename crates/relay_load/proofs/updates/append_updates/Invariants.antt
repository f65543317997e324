use Rattle.std.proofs.Common.{◌≡◌, ◌*◌, ◌++◌, map}
use Rattle.std.specs.List.{AllByRecursion}
use Rattle.amt_script.specs.{declared.script.RelayItem.TheVariants.{Event as EventItem}, Running.{IsItem}}
use Rattle.relay_machine.specs.declared.settings.Settings.{Settings}
use Rattle.relay_load.specs.{Generator.{number_after}, Script.{load_updates}}
use Rattle.relay_load.proofs.updates.append_updates.Given as goal

abbrev pub invariant-loop-before : goal.invariant-loop-before
invariant-loop-before l = record {
  number : l.generator.number ≡ number_after l.fn.seed (4 * l.before);
  updates : l.items ≡ l.initial.items ++ map EventItem (load_updates l.fn.seed l.before);
  sized : (settings : Settings) → AllByRecursion (IsItem settings) l.initial.items → AllByRecursion (IsItem settings) l.items;
}
