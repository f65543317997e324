use Rattle.std.{proofs.Common.{◌≡◌, take}, specs.List.{AllByRecursion}}
use Rattle.relay_machine.specs.Settings.{default_settings}
use Rattle.amt_script.specs.{Reading.{IsAllowed}, Settling.{with_settings}}
use Rattle.amt_script.proofs.settling.settings_of.Given as goal

abbrev pub invariant-loop-setting : goal.invariant-loop-setting
invariant-loop-setting l =
    AllByRecursion IsAllowed l.given → l.settings ≡ with_settings (default_settings l.fn.relay) (take l.setting-index l.given)
