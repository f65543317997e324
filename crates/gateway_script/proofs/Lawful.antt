-- Gateway scripts are a lawful kind of script.
use Rattle.std.proofs.Common.{◌≡◌, ℕ, List, Option, None, Some, IsSome, inl, inr, sym, ap, ◌∙◌}
use Rattle.group_records.specs.declared.family.Family.{Family}
use Rattle.gateway_machine.specs.declared.event.GatewayEvent.{GatewayEvent}
use Rattle.script_lines.specs.{declared.reason.Reason.{Reason}, Kind.{IsLawfulKind}}
use Rattle.script_lines.specs.declared.reason.Reason.TheVariants as reasons
use Rattle.gateway_script.specs.{declared.{kind.LineKind.{LineKind}, line.GatewayStatement.{GatewayStatement}, script.GatewayScript.{GatewayScript}, setting.Setting.{Setting}}, Fault.{FailsAfter, FailsInKind}, Script.{SaysAfter, MakesGatewayScript, events_in, gateway_kind, settings_in}, Setting.{key_of, set_at}}
use Rattle.gateway_script.{specs.Settling.{family_given}, proofs.{Judging.{fails_as, no_key, no_late, no_set_alone, no_word, twice_at}, Says.{IsFit, event_is_fit, event_kind, kind_of_event, setting_is_fit, setting_or_event}, Settled.{settled_values, wrong_at_end}, Unique.{SaysEvent-unique, SaysSetting-unique}}}
use Rattle.gateway_script.specs.declared.kind.LineKind.TheVariants as kinds
use Rattle.gateway_script.specs.declared.line.GatewayStatement.TheVariants as statements

fit_is_sound : (family : Option Family) (kind : LineKind) (line : List (List ℕ)) (reason : Reason) → IsFit family kind line → FailsInKind family line reason → ⊥
fit_is_sound family kind line reason fit fails = fit.fits reason (fails_as family kind fit.values line reason fit.parts fails)

fit_is_good : (given : List Setting) (events : List GatewayEvent) (line : List (List ℕ)) (kind : LineKind) → IsFit (family_given given) kind line
    → (FailsAfter given events line reasons.Late → ⊥) → (FailsAfter given events line reasons.Twice → ⊥) → (reason : Reason) → FailsAfter given events line reason → ⊥
fit_is_good given events line kind fit late twice reasons.Long h = h
fit_is_good given events line kind fit late twice reasons.Word h = fit.fits reasons.Word (no_word (family_given given) line kind fit.values fit.parts h)
fit_is_good given events line kind fit late twice reasons.Late h = late h
fit_is_good given events line kind fit late twice reasons.Twice h = twice h
fit_is_good given events line kind fit late twice reasons.Count (inl alone) = no_set_alone kind fit.values line fit.parts alone
fit_is_good given events line kind fit late twice reasons.Count (inr fails) = fit_is_sound (family_given given) kind line reasons.Count fit fails
fit_is_good given events line kind fit late twice reasons.Missing h = h
fit_is_good given events line kind fit late twice reason h = fit_is_sound (family_given given) kind line reason fit h

some_and_none : (o : Option Setting) → o ≡ None → IsSome o → ⊥
some_and_none None none some = cc some
some_and_none (Some x) none some = cc none

no_statement : (given : List Setting) (events : List GatewayEvent) (one : GatewayStatement) (line : List (List ℕ)) (reason : Reason) → SaysAfter given events one line
    → FailsAfter given events line reason → ⊥
no_statement given events (statements.Setting setting) line reason says fails =
    let fit = setting_is_fit (family_given given) setting line says.1 in
    fit_is_good given events line (kinds.Set (key_of setting)) fit
    (λ late. late.0 says.0.early)
    (λ twice. some_and_none (set_at given (key_of setting)) says.0.new
    (twice_at given line (key_of setting) fit.values fit.parts twice.0 twice.1 twice.2 twice.3))
    reason fails
no_statement given events (statements.Event event) line reason says fails =
    let fit = event_is_fit (family_given given) event line says in
    let kind = event_kind event in
    fit_is_good given events line (kind_of_event event) fit
    (λ late. no_late (kind_of_event event) fit.values line late.1 kind fit.parts late.2)
    (λ twice. no_key (kind_of_event event) fit.values line twice.0 twice.1 kind fit.parts twice.2)
    reason fails

one_statement : (given : List Setting) (events : List GatewayEvent) (one other : GatewayStatement) (line : List (List ℕ)) → SaysAfter given events one line
    → SaysAfter given events other line → one ≡ other
one_statement given events (statements.Setting x) (statements.Setting y) line h k = ap (λ (s : Setting). statements.Setting s) (SaysSetting-unique x y line h.1 k.1)
one_statement given events (statements.Setting x) (statements.Event y) line h k = absurd (setting_or_event (family_given given) x y line h.1 k)
one_statement given events (statements.Event x) (statements.Setting y) line h k = absurd (setting_or_event (family_given given) y x line k.1 h)
one_statement given events (statements.Event x) (statements.Event y) line h k =
    ap (λ (e : GatewayEvent). statements.Event e) (SaysEvent-unique (family_given given) x y line h k)

same_script : (one other : GatewayScript) → one.settings ≡ other.settings → one.nonce ≡ other.nonce → one.items ≡ other.items → one ≡ other
same_script one other same_settings same_nonce same_items =
    λ i. record { settings = same_settings i; nonce = same_nonce i; items = same_items i }

one_script : (said : List GatewayStatement) (one other : GatewayScript) → MakesGatewayScript said one → MakesGatewayScript said other → one ≡ other
one_script said one other h k =
    same_script one other (settled_values (settings_in said) one.settings other.settings one.nonce other.nonce h.settled k.settled)
    (h.settled.first_nonce ∙ sym k.settled.first_nonce) (h.items ∙ sym k.items)

pub gateway_kind_lawful : IsLawfulKind gateway_kind
gateway_kind_lawful = record {
  one_statement = λ past one other line h k. one_statement (settings_in past) (events_in past) one other line h k;
  no_statement = λ past one line reason h k. no_statement (settings_in past) (events_in past) one line reason h k;
  one_script = one_script;
  no_script = λ said script reason h k. wrong_at_end (settings_in said) script.settings script.nonce reason h.settled h.source k;
}
