-- What is read of a line of a kind, as one answer.
use Rattle.std.proofs.Common.{◌≡◌, ℕ, List, [], ◌∷◌, ◌++◌, ◌≤◌, length, IsSome, Option, Result, Ok, Err, IfOk, IfErr, MatchResult, inl, inr, refl, sym, subst, arith}
use Rattle.amt_values.specs.Conditions.{First}
use Rattle.group_records.specs.declared.family.Family.{Family}
use Rattle.gateway_machine.specs.declared.event.GatewayEvent.{GatewayEvent}
use Rattle.script_lines.specs.{declared.{fault.LineError.{LineError, TheVariants.{Bad}}, reason.Reason.{Reason}}, Reading.{FailsFirst}}
use Rattle.script_lines.specs.declared.reason.Reason.TheVariants as reasons
use Rattle.gateway_script.specs.{declared.{kind.{Key.{Key}, LineKind.{LineKind}}, setting.Setting.{Setting}}, Fault.{FailsAs, order_of_values}, Reading.{FailsToSet, IsEventBy, order_with_word}, Row.{words_of}, Says.{SaysEvent}, Setting.{set_at}, Settling.{family_given}}
use Rattle.gateway_script.specs.declared.kind.LineKind.TheVariants as kinds

-- an event or a reason, as an answer
abbrev IsAnswer : Result GatewayEvent Reason → Result GatewayEvent LineError → Type 0
IsAnswer read result = MatchResult read (λ event. result ≡ Ok event) (λ reason. result ≡ Err (Bad reason))

event_answered : (P : GatewayEvent → Type 0) (read : Result GatewayEvent Reason) (result : Result GatewayEvent LineError) → IsAnswer read result → IfOk read P → IfOk result P
event_answered P (Ok event) result is holds = subst (λ (r : Result GatewayEvent LineError). IfOk r P) (sym is) holds
event_answered P (Err reason) result is holds = subst (λ (r : Result GatewayEvent LineError). IfOk r P) (sym is) tt

reason_answered : (P : LineError → Type 0) (read : Result GatewayEvent Reason) (result : Result GatewayEvent LineError) → IsAnswer read result
    → IfErr read (λ reason. P (Bad reason)) → IfErr result P
reason_answered P (Ok event) result is holds = subst (λ (r : Result GatewayEvent LineError). IfErr r P) (sym is) tt
reason_answered P (Err reason) result is holds = subst (λ (r : Result GatewayEvent LineError). IfErr r P) (sym is) holds

pub found_of : (family : Option Family) (kind other : LineKind) (values : List (List ℕ)) (read : Result GatewayEvent Reason) (result : Result GatewayEvent LineError) → kind ≡ other
    → IsAnswer read result → IfOk read (λ event. SaysEvent family event (words_of other ++ values)) → IfOk result (λ event. SaysEvent family event (words_of kind ++ values))
found_of family kind other values read result same is found =
    subst (λ (k : LineKind). IfOk result (λ event. SaysEvent family event (words_of k ++ values))) (sym same)
    (event_answered (λ event. SaysEvent family event (words_of other ++ values)) read result is found)

pub may_of : (family : Option Family) (read : Result GatewayEvent Reason) (result : Result GatewayEvent LineError) → IsAnswer read result → IfOk read (IsEventBy family)
    → IfOk result (IsEventBy family)
may_of family read result is may = event_answered (IsEventBy family) read result is may

pub reason_of : (family : Option Family) (kind other : LineKind) (values : List (List ℕ)) (read : Result GatewayEvent Reason) (result : Result GatewayEvent LineError) → kind ≡ other
    → IsAnswer read result → IfErr read (λ reason. First (FailsAs family other values) order_of_values reason) → IfErr result (FailsFirst (FailsAs family kind values) order_of_values)
reason_of family kind other values read result same is fails =
    subst (λ (k : LineKind). IfErr result (FailsFirst (FailsAs family k values) order_of_values)) (sym same)
    (reason_answered (FailsFirst (FailsAs family other values) order_of_values) read result is fails)

pub error_of : (family : Option Family) (kind other : LineKind) (values : List (List ℕ)) (result : Result GatewayEvent LineError) → kind ≡ other
    → IfErr result (FailsFirst (FailsAs family other values) order_of_values) → IfErr result (FailsFirst (FailsAs family kind values) order_of_values)
error_of family kind other values result same fails =
    subst (λ (k : LineKind). IfErr result (FailsFirst (FailsAs family k values) order_of_values)) (sym same) fails

after_word : (given : List Setting) (events : List GatewayEvent) (key : Key) (values : List (List ℕ)) (reason : Reason)
    → (FailsAs (family_given given) (kinds.Set key) values reasons.Word → ⊥) → events ≡ [] → (IsSome (set_at given key) → ⊥)
    → First (FailsAs (family_given given) (kinds.Set key) values) order_with_word reason
    → First (FailsToSet given events key values) (reasons.Word ∷ reasons.Late ∷ reasons.Twice ∷ order_of_values) reason
after_word given events key values reason word early new (inl here) = absurd (word here.0)
after_word given events key values reason word early new (inr later) = inr (word, inr (λ late. late early, inr (new, later.1)))

-- a setting's one field fails, and nothing before it
pub set_failed : (given : List Setting) (events : List GatewayEvent) (key : Key) (values : List (List ℕ)) (text : List ℕ) (reason : Reason) → values ≡ text ∷ []
    → (FailsAs (family_given given) (kinds.Set key) values reasons.Word → ⊥) → events ≡ [] → (IsSome (set_at given key) → ⊥)
    → First (FailsAs (family_given given) (kinds.Set key) (text ∷ [])) order_with_word reason
    → First (FailsToSet given events key values) (reasons.Word ∷ reasons.Late ∷ reasons.Twice ∷ order_of_values) reason
set_failed given events key values text reason parts word early new first =
    let whole = subst (λ (vs : List (List ℕ)). First (FailsAs (family_given given) (kinds.Set key) vs) order_with_word reason) (sym parts) first in
    after_word given events key values reason word early new whole

pub none_there : (events : List GatewayEvent) → length events ≤ 0 → events ≡ []
none_there [] none = refl
none_there (event ∷ events) none = absurd (omega (arith, none))
