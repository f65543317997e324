-- That a step is an answer of the table.
use Rattle.std.{proofs.Common.{◌≡◌, ◌++◌, ◌∷◌, ℕ, max, Bool, true, false, List, [], Option, Some, None, Result, Ok, Err, refl, sym, ap, subst, ◌∙◌, arith}, specs.Result.{IfOk}}
use Rattle.amt_messages.specs.declared.message.Message.{Message}
use Rattle.amt_values.specs.EndpointValue.{EndpointValue}
use Rattle.source_filter.specs.declared.record.Record.{Record}
use Rattle.endpoint_membership.specs.{Log.{latest}, Memberships.{is_live, memberships_at}, Table.{Holds, TableValue, TableSettings, in_force_of, limit_passed, memberships_now}, declared.{change.Change.{Change, TheVariants.{Clear, Reported}}, limits.LimitFault.{LimitFault}}}
use Rattle.relay_machine.specs.{declared.{outcome.{Outcome.{Outcome, TheVariants.{NoTunnel, Over, TornDown, Updated}}, Unlawful.{Unlawful}}, sends.Step.{Step}}, Accepted.{handed_out, with_change}, EventAnswer.{EventAnswer, entered, limited_answer, quiet, replied, teardown_answer, update_answer}, Logs.{IsAnswered}, Updates.{forwardable_records}}

-- where nothing is entered, nothing is handed out and the table stays
pub answered-unchanged : (terms : TableSettings) (before after : TableValue) (log : List Change) (answer : EventAnswer) (step : Step) → Holds terms before log → after ≡ before → answer.entry ≡ None
    → step.outcome ≡ answer.outcome → step.sends ≡ answer.sends → step.change ≡ None → IsAnswered terms before after log answer step
answered-unchanged terms before after log answer step holds same none outcome sends unchanged =
    let held = subst (λ (table : TableValue). Holds terms table log) (sym same) holds in
    let with : Option Change → Type 0 = λ change. Holds terms after (with_change log change) in record {
      outcome = outcome;
      sends = sends;
      change = unchanged ∙ sym (ap (handed_out terms log) none);
      stands = subst with (sym none) held;
      published = subst with (sym unchanged) held;
      same = λ _. same;
      force = ap (λ (table : TableValue). table.in_force) same;
    }

-- where a message is sent
pub answered-replied : {E : Type 0} (terms : TableSettings) (table : TableValue) (log : List Change) (outcome known : Outcome) (to : EndpointValue) (message written : Message) (result : Result Step E) → Holds terms table log
    → outcome ≡ known → message ≡ written → IfOk result (λ step. step.outcome ≡ outcome) → IfOk result (λ step. step.sends ≡ (replied outcome to message).sends) → IfOk result (λ step. step.change ≡ None)
    → IfOk result (IsAnswered terms table table log (replied known to written))
answered-replied terms table log outcome known to message written (Err fault) holds same is came sent unchanged = tt
answered-replied terms table log outcome known to message written (Ok step) holds same is came sent unchanged =
    answered-unchanged terms table table log (replied known to written) step holds refl refl (came ∙ same) (sent ∙ ap (λ (one : Message). (replied known to one).sends) is) unchanged

-- where an entry is made and handed out
pub answered-entered : (terms : TableSettings) (before after : TableValue) (log : List Change) (answer : EventAnswer) (entry : Change) (step : Step) → answer.entry ≡ Some entry
    → handed_out terms log (Some entry) ≡ Some entry → Holds terms after (log ++ entry ∷ []) → after.in_force ≡ before.in_force → step.outcome ≡ answer.outcome
    → step.sends ≡ answer.sends → step.change ≡ Some entry → IsAnswered terms before after log answer step
answered-entered terms before after log answer entry step made whole holds force outcome sends changed =
    let with : Option Change → Type 0 = λ change. Holds terms after (with_change log change) in record {
      outcome = outcome;
      sends = sends;
      change = changed ∙ sym (ap (handed_out terms log) made ∙ whole);
      stands = subst with (sym made) holds;
      published = subst with (sym changed) holds;
      same = λ none. absurd (let both : Some entry ≡ None = sym changed ∙ none in cc);
      force = force;
    }

-- an Update whose report passes no limit
pub answered-accepted : (terms : TableSettings) (before after : TableValue) (log : List Change) (source : EndpointValue) (records : List Record) (at : ℕ) (step : Step) → at ≡ latest log
    → limit_passed (in_force_of terms before) log source records at ≡ None → Holds terms after (log ++ Reported source records at ∷ []) → after.in_force ≡ before.in_force
    → step.outcome ≡ Updated → step.sends ≡ [] → step.change ≡ Some (Reported source records at)
    → IsAnswered terms before after log (limited_answer (limit_passed (in_force_of terms before) log source records (latest log)) (Reported source records (latest log))) step
answered-accepted terms before after log source records at step now passed holds force outcome sends changed =
    subst (λ (m : ℕ). IsAnswered terms before after log (limited_answer (limit_passed (in_force_of terms before) log source records m) (Reported source records m)) step) now
    (subst (λ (fault : Option LimitFault). IsAnswered terms before after log (limited_answer fault (Reported source records at)) step) (sym passed)
    (answered-entered terms before after log (entered Updated (Reported source records at)) (Reported source records at) step refl refl holds force outcome sends changed))

-- one whose report passes a limit
pub answered-over : (terms : TableSettings) (before after : TableValue) (log : List Change) (source : EndpointValue) (records : List Record) (at : ℕ) (fault : LimitFault) (step : Step) → at ≡ latest log
    → limit_passed (in_force_of terms before) log source records at ≡ Some fault → Holds terms before log → after ≡ before → step.outcome ≡ Over fault → step.sends ≡ [] → step.change ≡ None
    → IsAnswered terms before after log (limited_answer (limit_passed (in_force_of terms before) log source records (latest log)) (Reported source records (latest log))) step
answered-over terms before after log source records at fault step now passed holds same outcome sends unchanged =
    subst (λ (m : ℕ). IsAnswered terms before after log (limited_answer (limit_passed (in_force_of terms before) log source records m) (Reported source records m)) step) now
    (subst (λ (known : Option LimitFault). IsAnswered terms before after log (limited_answer known (Reported source records at)) step) (sym passed)
    (answered-unchanged terms before after log (quiet (Over fault)) step holds same refl outcome sends unchanged))

-- where records were read, the limits are left to judge
pub answered-read : (terms : TableSettings) (before after : TableValue) (log : List Change) (reading : Result (List Record) Unlawful) (records kept : List Record)
    (passed : List Record → Option LimitFault) (source : EndpointValue) (moment : ℕ) (step : Step) → reading ≡ Ok records → kept ≡ forwardable_records records
    → IsAnswered terms before after log (limited_answer (passed kept) (Reported source kept moment)) step
    → IsAnswered terms before after log (update_answer true reading passed source moment) step
answered-read terms before after log reading records kept passed source moment step read skipped answered =
    subst (λ (known : Result (List Record) Unlawful). IsAnswered terms before after log (update_answer true known passed source moment) step) (sym read)
    (subst (λ (all : List Record). IsAnswered terms before after log (limited_answer (passed all) (Reported source all moment)) step) skipped answered)

-- whether an endpoint is live at the log's own moment
pub live_now : (terms : TableSettings) (log : List Change) (endpoint : EndpointValue) (at : ℕ) (live : Bool) → at ≡ latest log
    → live ≡ is_live endpoint (memberships_at terms.lifetime (max at (latest log)) log) → is_live endpoint (memberships_now terms log) ≡ live
live_now terms log endpoint at live now found =
    sym (found ∙ ap (λ (moment : ℕ). is_live endpoint (memberships_at terms.lifetime moment log)) (omega (arith, now)))

-- a Teardown of an endpoint with some group
pub answered-torn : (terms : TableSettings) (before after : TableValue) (log : List Change) (named : EndpointValue) (at : ℕ) (live : Bool) (step : Step) → at ≡ latest log → live ≡ true
    → live ≡ is_live named (memberships_at terms.lifetime (max at (latest log)) log) → Holds terms after (log ++ Clear named at ∷ []) → after.in_force ≡ before.in_force
    → step.outcome ≡ TornDown → step.sends ≡ [] → step.change ≡ Some (Clear named at) → IsAnswered terms before after log (teardown_answer true (is_live named (memberships_now terms log)) named (latest log)) step
answered-torn terms before after log named at live step now is_so found holds force outcome sends changed =
    let is : is_live named (memberships_now terms log) ≡ true = live_now terms log named at live now found ∙ is_so in
    subst (λ (m : ℕ). IsAnswered terms before after log (teardown_answer true (is_live named (memberships_now terms log)) named m) step) now
    (subst (λ (test : Bool). IsAnswered terms before after log (teardown_answer true test named at) step) (sym is)
    (answered-entered terms before after log (entered TornDown (Clear named at)) (Clear named at) step refl (rw is refl) holds force outcome sends changed))

-- one of an endpoint with none: the clearing is entered, and changes nothing
pub answered-no_tunnel : (terms : TableSettings) (before after : TableValue) (log : List Change) (named : EndpointValue) (at : ℕ) (live : Bool) (step : Step) → at ≡ latest log → live ≡ false
    → live ≡ is_live named (memberships_at terms.lifetime (max at (latest log)) log) → Holds terms after (log ++ Clear named at ∷ []) → Holds terms before log → after ≡ before
    → step.outcome ≡ NoTunnel → step.sends ≡ [] → step.change ≡ None
    → IsAnswered terms before after log (teardown_answer true (is_live named (memberships_now terms log)) named (latest log)) step
answered-no_tunnel terms before after log named at live step now is_so found holds held same outcome sends unchanged =
    let is : is_live named (memberships_now terms log) ≡ false = live_now terms log named at live now found ∙ is_so in
    subst (λ (m : ℕ). IsAnswered terms before after log (teardown_answer true (is_live named (memberships_now terms log)) named m) step) now
    (subst (λ (test : Bool). IsAnswered terms before after log (teardown_answer true test named at) step) (sym is) (record {
      outcome = outcome;
      sends = sends;
      change = rw is unchanged;
      stands = holds;
      published = subst (λ (change : Option Change). Holds terms after (with_change log change)) (sym unchanged) (subst (λ (table : TableValue). Holds terms table log) (sym same) held);
      same = λ _. same;
      force = ap (λ (table : TableValue). table.in_force) same;
    }))
