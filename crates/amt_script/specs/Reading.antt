-- What the reader's own answers say.
use Rattle.std.specs.{Prelude.{◌≡◌, List}, List.{AllByRecursion}}
use Rattle.relay_machine.specs.Settings.{IsInKeyRange}
use Rattle.amt_script.specs.{declared.{line.RelayStatement.{RelayStatement}, script.RelayItem.{RelayItem}, setting.Setting.{Setting}}, Script.{settings_in, items_in}}
use Rattle.amt_script.specs.declared.setting.Setting.TheVariants as settings

-- a number is in its key's range
abbrev pub IsAllowed : Setting → Type 0
IsAllowed (settings.Number key number) = IsInKeyRange key number
IsAllowed other = Unit {0}

-- these are the settings and items among the statements
pub record AreThose (given : List Setting) (items : List RelayItem) (said : List RelayStatement) : Type 0 where
  pub settings_are : given ≡ settings_in said
  pub items_are : items ≡ items_in said
  pub allowed : AllByRecursion IsAllowed given
