-- A step of a dual gateway by those of its machines.
use Rattle.{std.proofs.{Common.{◌≡◌, ℕ, Bool, true, false, List, [], ◌∷◌, ◌++◌, map, IfOk, Result, Ok, Err, Some, None, refl, sym, ap, ◌∙◌, subst}, lemmas.Bool.{cond-false, cond-true}}, amt_values.specs.declared.peer.Peer.{Peer}, amt_pair.specs.Parts.{gateway_step}, gateway_machine.specs.{Answers.{Answer}, Runs.{GatewayAt, answer_in, settings_of}, Sends.{datagram_of}, declared.{event.GatewayEvent.{GatewayEvent, TheVariants.{Datagram as Heard}}, gateway.Gateway.{Gateway}, step.GatewayStep.{GatewayStep}}}, amt_dual.specs.Answers.{AreSteps, DualAt, DualCourse, DualSettings, answer_by, dual_answer, is_ignored, machine_run, nonce_for, settings_at, settings_by, with_dual_event}, amt_dual.specs.declared.{event.DualEvent.TheVariants.{Datagram, Socket}}}

-- a step of a machine is what its fields say
pub step_is : {E : Type 0} (answer : Answer) (result : Result GatewayStep E) → IfOk result (λ step. step.outcome ≡ answer.outcome)
    → IfOk result (λ step. step.sends ≡ map datagram_of answer.sends) → IfOk result (λ step. step.deliver ≡ answer.deliver) → IfOk result (λ step. step ≡ gateway_step answer)
step_is answer (Ok step) outcome sends deliver = λ i. record { outcome = outcome i; sends = sends i; deliver = deliver i }
step_is answer (Err error) outcome sends deliver = tt

-- what each machine was set up with stays
pub settings_stay : (v4 v6 v4' v6' : Gateway) → settings_of v4' ≡ settings_of v4 → settings_of v6' ≡ settings_of v6 → (family : Bool)
    → settings_at (record { v4 = v4'; v6 = v6' }) family ≡ settings_at (record { v4 = v4; v6 = v6 }) family
settings_stay v4 v6 v4' v6' same4 same6 true = same6
settings_stay v4 v6 v4' v6' same4 same6 false = same4

module _ (settings : DualSettings) (course : DualCourse) where
  -- what the machine of a family answers
  abbrev pub answer_of : Bool → GatewayEvent → Answer
  answer_of v6 event = answer_in (settings_by settings v6) (machine_run settings course v6) event

  -- the machine of a family is where its events leave it
  abbrev pub IsAfter : Bool → Gateway → List GatewayEvent → Type 0
  IsAfter v6 gateway events = GatewayAt gateway (settings_by settings v6) (nonce_for settings.nonce v6) events

  module _ (from : Peer) (bytes : List ℕ) (event : GatewayEvent) (is : event ≡ Heard from bytes) where
    pub ignored_by_step : (step : GatewayStep) (answer : Bool) → step ≡ gateway_step (answer_of false event) → answer ≡ is_ignored step.outcome
        → is_ignored (answer_by settings course (Datagram from bytes) false).outcome ≡ answer
    ignored_by_step step answer same says =
        sym (ap (λ (heard : GatewayEvent). is_ignored (answer_of false heard).outcome) is) ∙ sym (ap (λ (taken : GatewayStep). is_ignored taken.outcome) same) ∙ sym says

    pub heard4 : (step : GatewayStep) → step ≡ gateway_step (answer_of false event) → Some step ≡ dual_answer settings course (Datagram from bytes) false
    heard4 step same = ap (λ (one : GatewayStep). Some one) same ∙ ap (λ (heard : GatewayEvent). Some (gateway_step (answer_of false heard))) is

    pub heard6 : (step : GatewayStep) → step ≡ gateway_step (answer_of true event) → is_ignored (answer_by settings course (Datagram from bytes) false).outcome ≡ true
        → Some step ≡ dual_answer settings course (Datagram from bytes) true
    heard6 step same passed =
        ap (λ (one : GatewayStep). Some one) same ∙ ap (λ (heard : GatewayEvent). Some (gateway_step (answer_of true heard))) is
        ∙ sym (cond-true (is_ignored (answer_by settings course (Datagram from bytes) false).outcome) (Some (gateway_step (answer_of true (Heard from bytes)))) None passed)

    pub unheard6 : is_ignored (answer_by settings course (Datagram from bytes) false).outcome ≡ false → None ≡ dual_answer settings course (Datagram from bytes) true
    unheard6 taken =
        sym (cond-false (is_ignored (answer_by settings course (Datagram from bytes) false).outcome) (Some (gateway_step (answer_of true (Heard from bytes)))) None taken)

    pub after4 : (gateway : Gateway) → IsAfter false gateway (course.v4 ++ event ∷ []) → IsAfter false gateway (with_dual_event settings course (Datagram from bytes)).v4
    after4 gateway at = subst (λ (heard : GatewayEvent). IsAfter false gateway (course.v4 ++ heard ∷ [])) is at

    pub after6 : (gateway : Gateway) → IsAfter true gateway (course.v6 ++ event ∷ []) → is_ignored (answer_by settings course (Datagram from bytes) false).outcome ≡ true
        → IsAfter true gateway (with_dual_event settings course (Datagram from bytes)).v6
    after6 gateway at passed =
        subst (IsAfter true gateway) (sym (cond-true (is_ignored (answer_by settings course (Datagram from bytes) false).outcome) (course.v6 ++ Heard from bytes ∷ []) course.v6 passed))
        (subst (λ (heard : GatewayEvent). IsAfter true gateway (course.v6 ++ heard ∷ [])) is at)

    pub stays6 : (gateway : Gateway) → IsAfter true gateway course.v6 → is_ignored (answer_by settings course (Datagram from bytes) false).outcome ≡ false
        → IsAfter true gateway (with_dual_event settings course (Datagram from bytes)).v6
    stays6 gateway at taken =
        subst (IsAfter true gateway) (sym (cond-false (is_ignored (answer_by settings course (Datagram from bytes) false).outcome) (course.v6 ++ Heard from bytes ∷ []) course.v6 taken)) at

  module _ (event : GatewayEvent) (step : GatewayStep) where
    pub next6 : (v6 : Bool) (v4 v6' : Gateway) → v6 ≡ true → IsAfter false v4 course.v4 → IsAfter true v6' (course.v6 ++ event ∷ [])
        → DualAt (record { v4 = v4; v6 = v6' }) settings (with_dual_event settings course (Socket v6 event))
    next6 true v4 v6' is at4 at6 = record { v4 = at4; v6 = at6 }
    next6 false v4 v6' is at4 at6 = absurd cc

    pub next4 : (v6 : Bool) (v4 v6' : Gateway) → v6 ≡ false → IsAfter false v4 (course.v4 ++ event ∷ []) → IsAfter true v6' course.v6
        → DualAt (record { v4 = v4; v6 = v6' }) settings (with_dual_event settings course (Socket v6 event))
    next4 false v4 v6' is at4 at6 = record { v4 = at4; v6 = at6 }
    next4 true v4 v6' is at4 at6 = absurd cc

    pub called6 : (v6 : Bool) → v6 ≡ true → step ≡ gateway_step (answer_of true event) → AreSteps settings course (Socket v6 event) (record { v4 = None; v6 = Some step; starved = false })
    called6 true is same = record { v4 = refl; v6 = ap (λ (one : GatewayStep). Some one) same }
    called6 false is same = absurd cc

    pub called4 : (v6 : Bool) → v6 ≡ false → step ≡ gateway_step (answer_of false event) → AreSteps settings course (Socket v6 event) (record { v4 = Some step; v6 = None; starved = false })
    called4 false is same = record { v4 = ap (λ (one : GatewayStep). Some one) same; v6 = refl }
    called4 true is same = absurd cc
