-- What the reader's own answers say.
use Rattle.std.specs.{Prelude.{◌≡◌, List}, List.{AllByRecursion}}
use Rattle.amt_script.specs.{Reading.{IsAllowed}, declared.setting.Setting.{Setting}}
use Rattle.amt_dual_script.specs.{Script.{gateways_in, items_in, settings_in}, declared.{script.{DualGateway.{DualGateway}, DualItem.{DualItem}}, statement.DualStatement.{DualStatement}}}

-- these are the settings, gateways and items among the statements
pub record AreThose (given : List Setting) (gateways : List DualGateway) (items : List DualItem) (said : List DualStatement) : Type 0 where
  pub settings_are : given ≡ settings_in said
  pub gateways_are : gateways ≡ gateways_in said
  pub items_are : items ≡ items_in said
  pub allowed : AllByRecursion IsAllowed given
