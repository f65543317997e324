-- What has been said, one line more.
use Rattle.std.{proofs.{Common.{◌≡◌, ℕ, List, [], ◌∷◌, ◌++◌, Option, refl, sym, ap, subst, ◌∙◌, append-nil}, lemmas.List.Elements.{filter_map-append}}, specs.List.{AllByRecursion, filter_map}}
use Rattle.amt_script.specs.{Reading.{IsAllowed}, declared.setting.Setting.{Setting}}
use Rattle.script_lines.specs.{Reading.{FailsFirst}, declared.fault.LineError.{LineError}}
use Rattle.pair_script.specs.{Fault.{FailsAfter, order_of_reasons}, Reading.{AreThose}, Script.{SaysAfter, gateway_in, gateways_in, item_in, items_in, setting_in, settings_in}, declared.{script.{PairGateway.{PairGateway}, PairItem.{PairItem}}, statement.PairStatement.{PairStatement}}}
use Rattle.pair_script.specs.declared.statement.PairStatement.TheVariants as statements

-- what a line says after these settings, gateways and items, it says after the statements that they are of
pub says_after : (given : List Setting) (gateways : List PairGateway) (items : List PairItem) (past : List PairStatement) (one : PairStatement) (line : List (List ℕ))
    → AreThose given gateways items past → SaysAfter given gateways items one line → SaysAfter (settings_in past) (gateways_in past) (items_in past) one line
says_after given gateways items past one line those says =
    subst (λ (i : List PairItem). SaysAfter (settings_in past) (gateways_in past) i one line) those.items_are
    (subst (λ (g : List PairGateway). SaysAfter (settings_in past) g items one line) those.gateways_are
    (subst (λ (s : List Setting). SaysAfter s gateways items one line) those.settings_are says))

-- and so is what is wrong with it
pub fails_after : (given : List Setting) (gateways : List PairGateway) (items : List PairItem) (past : List PairStatement) (line : List (List ℕ)) (error : LineError)
    → AreThose given gateways items past → FailsFirst (FailsAfter given gateways items line) order_of_reasons error
    → FailsFirst (FailsAfter (settings_in past) (gateways_in past) (items_in past) line) order_of_reasons error
fails_after given gateways items past line error those fails =
    subst (λ (i : List PairItem). FailsFirst (FailsAfter (settings_in past) (gateways_in past) i line) order_of_reasons error) those.items_are
    (subst (λ (g : List PairGateway). FailsFirst (FailsAfter (settings_in past) g items line) order_of_reasons error) those.gateways_are
    (subst (λ (s : List Setting). FailsFirst (FailsAfter s gateways items line) order_of_reasons error) those.settings_are fails))

pub allowed_more : (given : List Setting) (setting : Setting) → AllByRecursion IsAllowed given → IsAllowed setting → AllByRecursion IsAllowed (given ++ setting ∷ [])
allowed_more [] setting all here = (here, tt)
allowed_more (first ∷ rest) setting all here = (all.0, allowed_more rest setting all.1 here)

-- a statement of another kind adds none
pub none_more : {S X : Type 0} (f : S → Option X) (past : List S) (one : S) → filter_map f (one ∷ []) ≡ [] → filter_map f past ≡ filter_map f (past ++ one ∷ [])
none_more {S} {X} f past one none = sym (append-nil (filter_map f past)) ∙ (ap (λ (more : List X). filter_map f past ++ more) (sym none) ∙ sym (filter_map-append f past (one ∷ [])))

pub heard_setting : (given : List Setting) (gateways : List PairGateway) (items : List PairItem) (past : List PairStatement) (setting : Setting)
    → AreThose given gateways items past → IsAllowed setting → AreThose (given ++ setting ∷ []) gateways items (past ++ statements.Setting setting ∷ [])
heard_setting given gateways items past setting those allowed = record {
  settings_are =
      ap (λ (g : List Setting). g ++ setting ∷ []) those.settings_are ∙ sym (filter_map-append setting_in past (statements.Setting setting ∷ []));
  gateways_are = those.gateways_are ∙ none_more gateway_in past (statements.Setting setting) refl;
  items_are = those.items_are ∙ none_more item_in past (statements.Setting setting) refl;
  allowed = allowed_more given setting those.allowed allowed;
}

pub heard_gateway : (given : List Setting) (gateways : List PairGateway) (items : List PairItem) (past : List PairStatement) (gateway : PairGateway)
    → AreThose given gateways items past → AreThose given (gateways ++ gateway ∷ []) items (past ++ statements.Gateway gateway ∷ [])
heard_gateway given gateways items past gateway those = record {
  settings_are = those.settings_are ∙ none_more setting_in past (statements.Gateway gateway) refl;
  gateways_are =
      ap (λ (g : List PairGateway). g ++ gateway ∷ []) those.gateways_are ∙ sym (filter_map-append gateway_in past (statements.Gateway gateway ∷ []));
  items_are = those.items_are ∙ none_more item_in past (statements.Gateway gateway) refl;
  allowed = those.allowed;
}

pub heard_item : (given : List Setting) (gateways : List PairGateway) (items : List PairItem) (past : List PairStatement) (item : PairItem)
    → AreThose given gateways items past → AreThose given gateways (items ++ item ∷ []) (past ++ statements.Item item ∷ [])
heard_item given gateways items past item those = record {
  settings_are = those.settings_are ∙ none_more setting_in past (statements.Item item) refl;
  gateways_are = those.gateways_are ∙ none_more gateway_in past (statements.Item item) refl;
  items_are = ap (λ (i : List PairItem). i ++ item ∷ []) those.items_are ∙ sym (filter_map-append item_in past (statements.Item item ∷ []));
  allowed = those.allowed;
}
