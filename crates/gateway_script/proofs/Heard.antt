-- The settings and events that have been said, one line more.
use Rattle.std.proofs.{Common.{◌≡◌, ℕ, List, [], ◌∷◌, ◌++◌, sym, ap, subst, ◌∙◌, append-nil}, lemmas.List.Elements.{filter_map-append}}
use Rattle.gateway_machine.specs.declared.event.GatewayEvent.{GatewayEvent}
use Rattle.script_lines.specs.{declared.fault.LineError.{LineError}, Reading.{FailsFirst}}
use Rattle.gateway_script.specs.{declared.{line.GatewayStatement.{GatewayStatement}, setting.Setting.{Setting}}, Fault.{FailsAfter, order_of_reasons}, Reading.{AreThose}, Script.{SaysAfter, event_in, events_in, setting_in, settings_in}}
use Rattle.gateway_script.specs.declared.line.GatewayStatement.TheVariants as statements

-- what a line says after these settings and events, it says after the statements that they are of
pub says_after : (given : List Setting) (events : List GatewayEvent) (past : List GatewayStatement) (one : GatewayStatement) (line : List (List ℕ))
    → AreThose given events past → SaysAfter given events one line → SaysAfter (settings_in past) (events_in past) one line
says_after given events past one line those says =
    subst (λ (e : List GatewayEvent). SaysAfter (settings_in past) e one line) those.events_are
    (subst (λ (g : List Setting). SaysAfter g events one line) those.settings_are says)

-- and what is wrong with it after these is wrong after those
pub fails_after : (given given' : List Setting) (events events' : List GatewayEvent) (past : List GatewayStatement) (line : List (List ℕ)) (error : LineError)
    → given' ≡ given → events' ≡ events → AreThose given events past → FailsFirst (FailsAfter given' events' line) order_of_reasons error
    → FailsFirst (FailsAfter (settings_in past) (events_in past) line) order_of_reasons error
fails_after given given' events events' past line error same_given same_events those fails =
    subst (λ (e : List GatewayEvent). FailsFirst (FailsAfter (settings_in past) e line) order_of_reasons error) (same_events ∙ those.events_are)
    (subst (λ (g : List Setting). FailsFirst (FailsAfter g events' line) order_of_reasons error) (same_given ∙ those.settings_are) fails)

pub heard_setting : (given : List Setting) (events : List GatewayEvent) (past : List GatewayStatement) (setting : Setting) → AreThose given events past
    → AreThose (given ++ setting ∷ []) events (past ++ statements.Setting setting ∷ [])
heard_setting given events past setting those = record {
  settings_are =
      ap (λ (g : List Setting). g ++ setting ∷ []) those.settings_are ∙ sym (filter_map-append setting_in past (statements.Setting setting ∷ []));
  events_are = those.events_are ∙ (sym (append-nil (events_in past)) ∙ sym (filter_map-append event_in past (statements.Setting setting ∷ [])));
}

pub heard_event : (given : List Setting) (events : List GatewayEvent) (past : List GatewayStatement) (event : GatewayEvent) → AreThose given events past
    → AreThose given (events ++ event ∷ []) (past ++ statements.Event event ∷ [])
heard_event given events past event those = record {
  settings_are = those.settings_are ∙ (sym (append-nil (settings_in past)) ∙ sym (filter_map-append setting_in past (statements.Event event ∷ [])));
  events_are = ap (λ (e : List GatewayEvent). e ++ event ∷ []) those.events_are ∙ sym (filter_map-append event_in past (statements.Event event ∷ []));
}
