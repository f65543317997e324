-- Scripts of dual gateways, as a kind of script.
use Rattle.std.specs.{Prelude.{◌≡◌, ℕ, List, [], ◌∷◌, Option, Some, None}, List.{filter_map}}
use Rattle.amt_script.specs.{Fault.{FailsAtEnd}, Says.{SaysSetting}, Script.{MaySet}, Settling.{Settles}, declared.setting.Setting.{Setting}}
use Rattle.relay_machine.specs.Settings.{AreLawfulSettings}
use Rattle.script_lines.specs.{Kind.{Kind}, Script.{Spells}, declared.reason.Reason.TheVariants.{Missing, Range}}
use Rattle.pair_script.specs.Fault.{order_of_reasons}
use Rattle.amt_dual_script.specs.{Fault.{FailsAfter}, Gateways.{IsNew}, Says.{SaysGateway, SaysItemAfter}, declared.{script.{DualGateway.{DualGateway}, DualItem.{DualItem}, DualScript.{DualScript}}, statement.DualStatement.{DualStatement}}}
use Rattle.amt_dual_script.specs.declared.statement.DualStatement.TheVariants as statements

-- the setting that a statement is, if it is one
abbrev pub setting_in : DualStatement → Option Setting
setting_in (statements.Setting setting) = Some setting
setting_in (statements.Gateway gateway) = None
setting_in (statements.Item item) = None

-- the gateway that a statement is, if it is one
abbrev pub gateway_in : DualStatement → Option DualGateway
gateway_in (statements.Setting setting) = None
gateway_in (statements.Gateway gateway) = Some gateway
gateway_in (statements.Item item) = None

-- the item that a statement is, if it is one
abbrev pub item_in : DualStatement → Option DualItem
item_in (statements.Setting setting) = None
item_in (statements.Gateway gateway) = None
item_in (statements.Item item) = Some item

-- the settings, the gateways and the items among statements, each in order
abbrev pub settings_in : List DualStatement → List Setting
settings_in said = filter_map setting_in said

abbrev pub gateways_in : List DualStatement → List DualGateway
gateways_in said = filter_map gateway_in said

abbrev pub items_in : List DualStatement → List DualItem
items_in said = filter_map item_in said

-- the gateway may follow these gateways and items: before all items, with a name and a peer of its own
pub record MayAdd (gateways : List DualGateway) (items : List DualItem) (gateway : DualGateway) : Type 0 where
  pub early : items ≡ []
  pub new : IsNew gateways gateway

-- after these settings, gateways and items a line of these fields says this
abbrev pub SaysAfter : List Setting → List DualGateway → List DualItem → DualStatement → List (List ℕ) → Type 0
SaysAfter given gateways items (statements.Setting setting) line = MaySet given items setting × SaysSetting setting line
SaysAfter given gateways items (statements.Gateway gateway) line = MayAdd gateways items gateway × SaysGateway gateway line
SaysAfter given gateways items (statements.Item item) line = SaysItemAfter gateways item line

-- together these statements are this script: a relay may be set up with its settings
pub record MakesDualScript (said : List DualStatement) (script : DualScript) : Type 0 where
  pub settled : Settles (settings_in said) script.settings script.secret
  pub lawful : AreLawfulSettings script.settings
  pub gateways : script.gateways ≡ gateways_in said
  pub items : script.items ≡ items_in said

-- scripts of dual gateways: settings and gateways in any order, and then items
abbrev pub dual_kind : Kind DualStatement DualScript
dual_kind = record {
  Says = λ past one line. SaysAfter (settings_in past) (gateways_in past) (items_in past) one line;
  Fails = λ past line reason. FailsAfter (settings_in past) (gateways_in past) (items_in past) line reason;
  order = order_of_reasons;
  Makes = MakesDualScript;
  FailsAtEnd = λ said reason. FailsAtEnd (settings_in said) reason;
  order_at_end = Missing ∷ Range ∷ [];
}

-- the octets spell the script: its lines say settings, each key once, and gateways, and then its items
abbrev pub IsDualScript : DualScript → List ℕ → Type 0
IsDualScript script bytes = Spells dual_kind script bytes
