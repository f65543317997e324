-- Gateway scripts, as a kind of script.
use Rattle.std.specs.{Prelude.{◌≡◌, ℕ, List, [], ◌∷◌, Option, Some, None}, List.{filter_map}}
use Rattle.gateway_machine.specs.{declared.event.GatewayEvent.{GatewayEvent}, Settings.{HasSourceOfFamily}}
use Rattle.script_lines.specs.{declared.reason.Reason.TheVariants.{Missing, Range}, Kind.{Kind}, Script.{Spells}}
use Rattle.gateway_script.specs.{declared.{line.GatewayStatement.{GatewayStatement}, script.GatewayScript.{GatewayScript}, setting.Setting.{Setting}}, Fault.{FailsAfter, FailsAtEnd, order_of_reasons}, Says.{SaysEvent, SaysSetting}, Setting.{key_of, set_at}, Settling.{Settles, family_given}}
use Rattle.gateway_script.specs.declared.line.GatewayStatement.TheVariants as statements

-- the setting that a statement is, if it is one
abbrev pub setting_in : GatewayStatement → Option Setting
setting_in (statements.Setting setting) = Some setting
setting_in (statements.Event event) = None

-- the event that a statement is, if it is one
abbrev pub event_in : GatewayStatement → Option GatewayEvent
event_in (statements.Setting setting) = None
event_in (statements.Event event) = Some event

-- the settings among statements, in order
abbrev pub settings_in : List GatewayStatement → List Setting
settings_in said = filter_map setting_in said

-- the events among them, in order
abbrev pub events_in : List GatewayStatement → List GatewayEvent
events_in said = filter_map event_in said

-- the setting may follow these settings and events: before all events, and its key for the first time
pub record MaySet (given : List Setting) (events : List GatewayEvent) (setting : Setting) : Type 0 where
  pub early : events ≡ []
  pub new : set_at given (key_of setting) ≡ None

-- after these settings and events a line of these fields says this
abbrev pub SaysAfter : List Setting → List GatewayEvent → GatewayStatement → List (List ℕ) → Type 0
SaysAfter given events (statements.Setting setting) line = MaySet given events setting × SaysSetting setting line
SaysAfter given events (statements.Event event) line = SaysEvent (family_given given) event line

-- Together these statements are this script: a gateway may be set up with its settings.
pub record MakesGatewayScript (said : List GatewayStatement) (script : GatewayScript) : Type 0 where
  pub settled : Settles (settings_in said) script.settings script.nonce
  pub source : HasSourceOfFamily script.settings
  pub items : script.items ≡ events_in said

-- gateway scripts: settings, and then events
abbrev pub gateway_kind : Kind GatewayStatement GatewayScript
gateway_kind = record {
  Says = λ past one line. SaysAfter (settings_in past) (events_in past) one line;
  Fails = λ past line reason. FailsAfter (settings_in past) (events_in past) line reason;
  order = order_of_reasons;
  Makes = MakesGatewayScript;
  FailsAtEnd = λ said reason. FailsAtEnd (settings_in said) reason;
  order_at_end = Missing ∷ Range ∷ [];
}

-- the octets spell the script: its lines say settings, each key once, and then its events
abbrev pub IsGatewayScript : GatewayScript → List ℕ → Type 0
IsGatewayScript script bytes = Spells gateway_kind script bytes
