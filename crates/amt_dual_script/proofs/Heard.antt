-- What has been said, one line more.
use Rattle.std.proofs.{Common.{ℕ, List, [], ◌∷◌, ◌++◌, refl, sym, ap, subst, ◌∙◌}, lemmas.List.Elements.{filter_map-append}}
use Rattle.amt_script.specs.{Reading.{IsAllowed}, declared.setting.Setting.{Setting}}
use Rattle.script_lines.specs.{Reading.{FailsFirst}, declared.fault.LineError.{LineError}}
use Rattle.pair_script.{specs.Fault.{order_of_reasons}, proofs.Heard.{allowed_more, none_more}}
use Rattle.amt_dual_script.specs.{Fault.{FailsAfter}, Reading.{AreThose}, Script.{SaysAfter, gateway_in, gateways_in, item_in, items_in, setting_in, settings_in}, declared.{script.{DualGateway.{DualGateway}, DualItem.{DualItem}}, statement.DualStatement.{DualStatement}}}
use Rattle.amt_dual_script.specs.declared.statement.DualStatement.TheVariants as statements

-- what holds after these settings, gateways and items holds after the statements that they are of
after_those : (Fact : List Setting → List DualGateway → List DualItem → Type 0) (given : List Setting) (gateways : List DualGateway) (items : List DualItem) (past : List DualStatement)
    → AreThose given gateways items past → Fact given gateways items → Fact (settings_in past) (gateways_in past) (items_in past)
after_those Fact given gateways items past those fact =
    subst (Fact (settings_in past) (gateways_in past)) those.items_are
    (subst (λ (g : List DualGateway). Fact (settings_in past) g items) those.gateways_are
    (subst (λ (s : List Setting). Fact s gateways items) those.settings_are fact))

pub says_after : (given : List Setting) (gateways : List DualGateway) (items : List DualItem) (past : List DualStatement) (one : DualStatement) (line : List (List ℕ))
    → AreThose given gateways items past → SaysAfter given gateways items one line → SaysAfter (settings_in past) (gateways_in past) (items_in past) one line
says_after given gateways items past one line those says = after_those (λ s g i. SaysAfter s g i one line) given gateways items past those says

pub fails_after : (given : List Setting) (gateways : List DualGateway) (items : List DualItem) (past : List DualStatement) (line : List (List ℕ)) (error : LineError)
    → AreThose given gateways items past → FailsFirst (FailsAfter given gateways items line) order_of_reasons error
    → FailsFirst (FailsAfter (settings_in past) (gateways_in past) (items_in past) line) order_of_reasons error
fails_after given gateways items past line error those fails =
    after_those (λ s g i. FailsFirst (FailsAfter s g i line) order_of_reasons error) given gateways items past those fails

pub heard_setting : (given : List Setting) (gateways : List DualGateway) (items : List DualItem) (past : List DualStatement) (setting : Setting)
    → AreThose given gateways items past → IsAllowed setting → AreThose (given ++ setting ∷ []) gateways items (past ++ statements.Setting setting ∷ [])
heard_setting given gateways items past setting those allowed = record {
  settings_are =
      ap (λ (g : List Setting). g ++ setting ∷ []) those.settings_are ∙ sym (filter_map-append setting_in past (statements.Setting setting ∷ []));
  gateways_are = those.gateways_are ∙ none_more gateway_in past (statements.Setting setting) refl;
  items_are = those.items_are ∙ none_more item_in past (statements.Setting setting) refl;
  allowed = allowed_more given setting those.allowed allowed;
}

pub heard_gateway : (given : List Setting) (gateways : List DualGateway) (items : List DualItem) (past : List DualStatement) (gateway : DualGateway)
    → AreThose given gateways items past → AreThose given (gateways ++ gateway ∷ []) items (past ++ statements.Gateway gateway ∷ [])
heard_gateway given gateways items past gateway those = record {
  settings_are = those.settings_are ∙ none_more setting_in past (statements.Gateway gateway) refl;
  gateways_are =
      ap (λ (g : List DualGateway). g ++ gateway ∷ []) those.gateways_are ∙ sym (filter_map-append gateway_in past (statements.Gateway gateway ∷ []));
  items_are = those.items_are ∙ none_more item_in past (statements.Gateway gateway) refl;
  allowed = those.allowed;
}

pub heard_item : (given : List Setting) (gateways : List DualGateway) (items : List DualItem) (past : List DualStatement) (item : DualItem)
    → AreThose given gateways items past → AreThose given gateways (items ++ item ∷ []) (past ++ statements.Item item ∷ [])
heard_item given gateways items past item those = record {
  settings_are = those.settings_are ∙ none_more setting_in past (statements.Item item) refl;
  gateways_are = those.gateways_are ∙ none_more gateway_in past (statements.Item item) refl;
  items_are = ap (λ (i : List DualItem). i ++ item ∷ []) those.items_are ∙ sym (filter_map-append item_in past (statements.Item item ∷ []));
  allowed = those.allowed;
}
