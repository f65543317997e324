-- Relay scripts are a lawful kind of script.
use Rattle.std.proofs.Common.{◌≡◌, ℕ, List, Option, None, Some, IsSome, inl, inr, sym, subst, ap, ◌∙◌}
use Rattle.script_lines.specs.{declared.reason.Reason.{Reason}, Kind.{IsLawfulKind}}
use Rattle.script_lines.specs.declared.reason.Reason.TheVariants as reasons
use Rattle.amt_script.specs.{declared.{kind.Kind.{Kind}, line.RelayStatement.{RelayStatement}, script.{RelayItem.{RelayItem}, RelayScript.{RelayScript}}, setting.Setting.{Setting}}, Fault.{FailsAfter, SaysMore}, Says.{SaysItem}, Script.{MayCome, SaysAfter, MakesRelayScript, settings_in, items_in, relay_kind}, Setting.{key_of, set_at}, Settling.{limits_given}}
use Rattle.amt_script.proofs.{Judging.{fails_as, no_set_alone, no_word, no_late, twice_at, IsItemKind}, Rows.{same_kind}, Says.{IsFit, kind_of_item, setting_is_fit, item_is_fit, no_set_item, setting_or_item}, Settlings.{settled_values, wrong_at_end}, Unique.{SaysSetting-unique, SaysItem-unique}}
use Rattle.amt_script.specs.declared.kind.Kind.TheVariants as kinds
use Rattle.amt_script.specs.declared.line.RelayStatement.TheVariants as statements
use Rattle.amt_script.specs.declared.script.RelayItem.TheVariants as relay_items
use Rattle.relay_machine.specs.declared.event.Event.TheVariants as events

fit_is_good : (given : List Setting) (items : List RelayItem) (line : List (List ℕ)) (kind : Kind) → IsFit kind line
    → (FailsAfter given items line reasons.Late → ⊥) → (FailsAfter given items line reasons.Twice → ⊥) → (SaysMore (limits_given given) line → ⊥) → (reason : Reason) → FailsAfter given items line reason → ⊥
fit_is_good given items line kind fit late twice more reasons.Long h = h
fit_is_good given items line kind fit late twice more reasons.Word h = no_word line kind fit.values fit.parts h
fit_is_good given items line kind fit late twice more reasons.Late h = late h
fit_is_good given items line kind fit late twice more reasons.Twice h = twice h
fit_is_good given items line kind fit late twice more reasons.Count (inl alone) = no_set_alone kind fit.values line fit.parts alone
fit_is_good given items line kind fit late twice more reasons.Count (inr fails) = fit.fits reasons.Count (fails_as kind fit.values line reasons.Count fit.parts fails)
fit_is_good given items line kind fit late twice more reasons.Range (inl fails) = fit.fits reasons.Range (fails_as kind fit.values line reasons.Range fit.parts fails)
fit_is_good given items line kind fit late twice more reasons.Range (inr says) = more says
fit_is_good given items line kind fit late twice more reasons.Missing h = h
fit_is_good given items line kind fit late twice more reason h = fit.fits reason (fails_as kind fit.values line reason fit.parts h)

some_and_none : (o : Option Setting) → o ≡ None → IsSome o → ⊥
some_and_none None none some = cc some
some_and_none (Some x) none some = cc none

-- limits that may come are no more than those given
no_more_limits : (given : List Setting) (item : RelayItem) (line : List (List ℕ)) → MayCome (limits_given given) item × SaysItem item line
    → SaysMore (limits_given given) line → ⊥
no_more_limits given item line says more =
    more.2 (subst (MayCome (limits_given given)) (SaysItem-unique item (relay_items.Event (events.Limits more.0)) line says.1 more.1) says.0)

no_statement : (given : List Setting) (items : List RelayItem) (one : RelayStatement) (line : List (List ℕ)) (reason : Reason) → SaysAfter given items one line
    → FailsAfter given items line reason → ⊥
no_statement given items (statements.Setting setting) line reason says fails =
    let fit = setting_is_fit setting line says.1 in
    fit_is_good given items line (kinds.Set (key_of setting)) fit
    (λ late. late.0 says.0.early)
    (λ twice. some_and_none (set_at given (key_of setting)) says.0.new
    (twice_at given line (key_of setting) fit.values fit.parts twice.0 twice.1 twice.2 twice.3))
    (λ more. setting_or_item setting (relay_items.Event (events.Limits more.0)) line says.1 more.1)
    reason fails
no_statement given items (statements.Item item) line reason says fails =
    let fit = item_is_fit item line says.1 in
    let kind : IsItemKind (kind_of_item item) = λ key same. no_set_item item key (sym same) in
    fit_is_good given items line (kind_of_item item) fit
    (λ late. no_late (kind_of_item item) fit.values line late.1 kind fit.parts late.2)
    (λ twice. kind twice.0 (same_kind (kind_of_item item) (kinds.Set twice.0) fit.values twice.1 (sym fit.parts ∙ twice.2)))
    (no_more_limits given item line says)
    reason fails

one_statement : (given : List Setting) (items : List RelayItem) (one other : RelayStatement) (line : List (List ℕ)) → SaysAfter given items one line
    → SaysAfter given items other line → one ≡ other
one_statement given items (statements.Setting x) (statements.Setting y) line h k = ap (λ (s : Setting). statements.Setting s) (SaysSetting-unique x y line h.1 k.1)
one_statement given items (statements.Setting x) (statements.Item y) line h k = absurd (setting_or_item x y line h.1 k.1)
one_statement given items (statements.Item x) (statements.Setting y) line h k = absurd (setting_or_item y x line k.1 h.1)
one_statement given items (statements.Item x) (statements.Item y) line h k = ap (λ (i : RelayItem). statements.Item i) (SaysItem-unique x y line h.1 k.1)

same_script : (one other : RelayScript) → one.settings ≡ other.settings → one.secret ≡ other.secret → one.items ≡ other.items → one ≡ other
same_script one other same_settings same_secret same_items =
    λ i. record { settings = same_settings i; secret = same_secret i; items = same_items i }

one_script : (said : List RelayStatement) (one other : RelayScript) → MakesRelayScript said one → MakesRelayScript said other → one ≡ other
one_script said one other h k =
    same_script one other (settled_values (settings_in said) one.settings other.settings one.secret other.secret h.settled k.settled)
    (h.settled.first_secret ∙ sym k.settled.first_secret) (h.items ∙ sym k.items)

pub relay_kind_lawful : IsLawfulKind relay_kind
relay_kind_lawful = record {
  one_statement = λ past one other line h k. one_statement (settings_in past) (items_in past) one other line h k;
  no_statement = λ past one line reason h k. no_statement (settings_in past) (items_in past) one line reason h k;
  one_script = one_script;
  no_script = λ said script reason h k. wrong_at_end (settings_in said) script.settings script.secret reason h.settled h.lawful k;
}
