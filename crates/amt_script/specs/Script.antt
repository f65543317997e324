-- Relay scripts, as a kind of script.
use Rattle.std.specs.{Prelude.{◌≡◌, ℕ, List, [], ◌∷◌, Option, Some, None}, List.{filter_map}}
use Rattle.endpoint_membership.specs.{Limits.{AreWithin}, declared.limits.Limits.{Limits}}
use Rattle.relay_machine.specs.Settings.{AreLawfulSettings}
use Rattle.relay_machine.specs.declared.event.Event.TheVariants as events
use Rattle.script_lines.specs.{declared.reason.Reason.TheVariants.{Missing, Range}, Kind.{Kind}, Script.{Spells}}
use Rattle.amt_script.specs.{declared.{line.RelayStatement.{RelayStatement}, script.{RelayItem.{RelayItem}, RelayScript.{RelayScript}}, setting.Setting.{Setting}}, Fault.{FailsAfter, FailsAtEnd, order_of_reasons}, Says.{SaysSetting, SaysItem}, Setting.{key_of, set_at}, Settling.{Settles, limits_given}}
use Rattle.amt_script.specs.declared.line.RelayStatement.TheVariants as statements
use Rattle.amt_script.specs.declared.script.RelayItem.TheVariants as items

-- the setting that a statement is, if it is one
abbrev pub setting_in : RelayStatement → Option Setting
setting_in (statements.Setting setting) = Some setting
setting_in (statements.Item item) = None

-- the item that a statement is, if it is one
abbrev pub item_in : RelayStatement → Option RelayItem
item_in (statements.Setting setting) = None
item_in (statements.Item item) = Some item

-- the settings among statements, in order
abbrev pub settings_in : List RelayStatement → List Setting
settings_in said = filter_map setting_in said

-- the items among them, in order
abbrev pub items_in : List RelayStatement → List RelayItem
items_in said = filter_map item_in said

-- the setting may follow these settings and items: before all items, and its key for the first time
pub record MaySet {I : Type 0} (given : List Setting) (items : List I) (setting : Setting) : Type 0 where
  pub early : items ≡ []
  pub new : set_at given (key_of setting) ≡ None

-- the item may follow settings of these limits: new limits are within them
abbrev pub MayCome : Limits → RelayItem → Type 0
MayCome given (items.Event (events.Limits limits)) = AreWithin given limits
MayCome given other = Unit {0}

-- after these settings and items a line of these fields says this
abbrev pub SaysAfter : List Setting → List RelayItem → RelayStatement → List (List ℕ) → Type 0
SaysAfter given items (statements.Setting setting) line = MaySet given items setting × SaysSetting setting line
SaysAfter given items (statements.Item item) line = MayCome (limits_given given) item × SaysItem item line

-- Together these statements are this script: a relay may be set up with its settings. Each number is in its
-- range, since its line says it; what is left to ask is that General Queries can carry the times, and that
-- the limits allow no more sources in all than a relay may keep.
pub record MakesRelayScript (said : List RelayStatement) (script : RelayScript) : Type 0 where
  pub settled : Settles (settings_in said) script.settings script.secret
  pub lawful : AreLawfulSettings script.settings
  pub items : script.items ≡ items_in said

-- relay scripts: settings, and then items
abbrev pub relay_kind : Kind RelayStatement RelayScript
relay_kind = record {
  Says = λ past one line. SaysAfter (settings_in past) (items_in past) one line;
  Fails = λ past line reason. FailsAfter (settings_in past) (items_in past) line reason;
  order = order_of_reasons;
  Makes = MakesRelayScript;
  FailsAtEnd = λ said reason. FailsAtEnd (settings_in said) reason;
  order_at_end = Missing ∷ Range ∷ [];
}

-- the octets spell the script: its lines say settings, each key once, and then its items
abbrev pub IsRelayScript : RelayScript → List ℕ → Type 0
IsRelayScript script bytes = Spells relay_kind script bytes
