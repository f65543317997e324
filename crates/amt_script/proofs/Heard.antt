-- The settings and items that have been said, one line more.
use Rattle.std.{proofs.{Common.{ℕ, List, [], ◌∷◌, ◌++◌, sym, ap, subst, ◌∙◌, append-nil}, lemmas.List.Elements.{filter_map-append}}, specs.List.{AllByRecursion}}
use Rattle.script_lines.specs.{Reading.{FailsFirst}, declared.fault.LineError.{LineError}}
use Rattle.amt_script.specs.{declared.{line.RelayStatement.{RelayStatement}, script.RelayItem.{RelayItem}, setting.Setting.{Setting}}, Fault.{FailsAfter, order_of_reasons}, Reading.{AreThose, IsAllowed}, Says.{SaysSetting}, Script.{SaysAfter, setting_in, item_in, settings_in, items_in}}
use Rattle.amt_script.specs.declared.line.RelayStatement.TheVariants as statements
use Rattle.amt_script.specs.declared.setting.Setting.TheVariants as settings

-- what a line says after these settings and items, it says after the statements that they are of
pub says_after : (given : List Setting) (items : List RelayItem) (past : List RelayStatement) (one : RelayStatement) (line : List (List ℕ)) → AreThose given items past
    → SaysAfter given items one line → SaysAfter (settings_in past) (items_in past) one line
says_after given items past one line those says =
    subst (λ (i : List RelayItem). SaysAfter (settings_in past) i one line) those.items_are
    (subst (λ (g : List Setting). SaysAfter g items one line) those.settings_are says)

-- and what is wrong with it
pub fails_after : (given : List Setting) (items : List RelayItem) (past : List RelayStatement) (line : List (List ℕ)) (error : LineError) → AreThose given items past
    → FailsFirst (FailsAfter given items line) order_of_reasons error → FailsFirst (FailsAfter (settings_in past) (items_in past) line) order_of_reasons error
fails_after given items past line error those fails =
    subst (λ (i : List RelayItem). FailsFirst (FailsAfter (settings_in past) i line) order_of_reasons error) those.items_are
    (subst (λ (g : List Setting). FailsFirst (FailsAfter g items line) order_of_reasons error) those.settings_are fails)

-- a line says a number in its key's range
pub allowed_by_line : (setting : Setting) (line : List (List ℕ)) → SaysSetting setting line → IsAllowed setting
allowed_by_line (settings.Number key number) line says = record { least = says.names.0.0; most = says.names.0.1 }
allowed_by_line (settings.Relay ip) line says = tt
allowed_by_line (settings.Query4 number) line says = tt
allowed_by_line (settings.Query6 number) line says = tt
allowed_by_line (settings.Secret secret) line says = tt
allowed_by_line (settings.LinuxGateways flag) line says = tt

allowed_more : (given : List Setting) (setting : Setting) → AllByRecursion IsAllowed given → IsAllowed setting → AllByRecursion IsAllowed (given ++ setting ∷ [])
allowed_more [] setting all here = (here, tt)
allowed_more (first ∷ rest) setting all here = (all.0, allowed_more rest setting all.1 here)

pub heard_setting : (given : List Setting) (items : List RelayItem) (past : List RelayStatement) (setting : Setting) → AreThose given items past
    → IsAllowed setting → AreThose (given ++ setting ∷ []) items (past ++ statements.Setting setting ∷ [])
heard_setting given items past setting those allowed = record {
  settings_are =
      ap (λ (g : List Setting). g ++ setting ∷ []) those.settings_are ∙ sym (filter_map-append setting_in past (statements.Setting setting ∷ []));
  items_are = those.items_are ∙ (sym (append-nil (items_in past)) ∙ sym (filter_map-append item_in past (statements.Setting setting ∷ [])));
  allowed = allowed_more given setting those.allowed allowed;
}

pub heard_item : (given : List Setting) (items : List RelayItem) (past : List RelayStatement) (item : RelayItem) → AreThose given items past
    → AreThose given (items ++ item ∷ []) (past ++ statements.Item item ∷ [])
heard_item given items past item those = record {
  settings_are = those.settings_are ∙ (sym (append-nil (settings_in past)) ∙ sym (filter_map-append setting_in past (statements.Item item ∷ [])));
  items_are = ap (λ (i : List RelayItem). i ++ item ∷ []) those.items_are ∙ sym (filter_map-append item_in past (statements.Item item ∷ []));
  allowed = those.allowed;
}
