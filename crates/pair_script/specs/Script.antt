-- Scripts of a pair, as a kind of script.
use Rattle.std.specs.{Prelude.{◌≡◌, ℕ, List, [], ◌∷◌, Option, Some, None}, List.{filter_map}}
use Rattle.amt_script.specs.{Fault.{FailsAtEnd}, Says.{SaysSetting}, Script.{MaySet}, Settling.{Settles}, declared.setting.Setting.{Setting}}
use Rattle.relay_machine.specs.Settings.{AreLawfulSettings}
use Rattle.script_lines.specs.{Kind.{Kind}, Script.{Spells}, declared.reason.Reason.TheVariants.{Missing, Range}}
use Rattle.pair_script.specs.{Fault.{FailsAfter, order_of_reasons}, Gateways.{IsNew}, Says.{SaysGateway, SaysItemAfter}, declared.{script.{PairGateway.{PairGateway}, PairItem.{PairItem}, PairScript.{PairScript}}, statement.PairStatement.{PairStatement}}}
use Rattle.pair_script.specs.declared.statement.PairStatement.TheVariants as statements

-- the setting that a statement is, if it is one
abbrev pub setting_in : PairStatement → Option Setting
setting_in (statements.Setting setting) = Some setting
setting_in (statements.Gateway gateway) = None
setting_in (statements.Item item) = None

-- the gateway that a statement is, if it is one
abbrev pub gateway_in : PairStatement → Option PairGateway
gateway_in (statements.Setting setting) = None
gateway_in (statements.Gateway gateway) = Some gateway
gateway_in (statements.Item item) = None

-- the item that a statement is, if it is one
abbrev pub item_in : PairStatement → Option PairItem
item_in (statements.Setting setting) = None
item_in (statements.Gateway gateway) = None
item_in (statements.Item item) = Some item

-- the settings, the gateways and the items among statements, each in order
abbrev pub settings_in : List PairStatement → List Setting
settings_in said = filter_map setting_in said

abbrev pub gateways_in : List PairStatement → List PairGateway
gateways_in said = filter_map gateway_in said

abbrev pub items_in : List PairStatement → List PairItem
items_in said = filter_map item_in said

-- the gateway may follow these gateways and items: before all items, with a name and a peer of its own
pub record MayAdd (gateways : List PairGateway) (items : List PairItem) (gateway : PairGateway) : Type 0 where
  pub early : items ≡ []
  pub new : IsNew gateways gateway

-- after these settings, gateways and items a line of these fields says this
abbrev pub SaysAfter : List Setting → List PairGateway → List PairItem → PairStatement → List (List ℕ) → Type 0
SaysAfter given gateways items (statements.Setting setting) line = MaySet given items setting × SaysSetting setting line
SaysAfter given gateways items (statements.Gateway gateway) line = MayAdd gateways items gateway × SaysGateway gateway line
SaysAfter given gateways items (statements.Item item) line = SaysItemAfter gateways item line

-- together these statements are this script: a relay may be set up with its settings
pub record MakesPairScript (said : List PairStatement) (script : PairScript) : Type 0 where
  pub settled : Settles (settings_in said) script.settings script.secret
  pub lawful : AreLawfulSettings script.settings
  pub gateways : script.gateways ≡ gateways_in said
  pub items : script.items ≡ items_in said

-- scripts of a pair: settings and gateways in any order, and then items
abbrev pub pair_kind : Kind PairStatement PairScript
pair_kind = record {
  Says = λ past one line. SaysAfter (settings_in past) (gateways_in past) (items_in past) one line;
  Fails = λ past line reason. FailsAfter (settings_in past) (gateways_in past) (items_in past) line reason;
  order = order_of_reasons;
  Makes = MakesPairScript;
  FailsAtEnd = λ said reason. FailsAtEnd (settings_in said) reason;
  order_at_end = Missing ∷ Range ∷ [];
}

-- the octets spell the script: its lines say settings, each key once, and gateways, and then its items
abbrev pub IsPairScript : PairScript → List ℕ → Type 0
IsPairScript script bytes = Spells pair_kind script bytes
