-- The first reason why a line is bad, by its first word.
use Rattle.std.proofs.Common.{◌≡◌, ◌↔◌, ℕ, true, false, List, [], ◌∷◌, inl, inr, refl, sym, subst, ap, ◌∙◌}
use Rattle.amt_script.specs.declared.setting.Setting.{Setting}
use Rattle.amt_values.specs.Conditions.{First}
use Rattle.gateway_script.proofs.Fields.{IsFamilyText-unique}
use Rattle.group_records.specs.declared.family.Family.{Family}
use Rattle.script_lines.{specs.{Form.{Fails, IsFamilyText, a_family}, Reading.{FailsFirst}, declared.{fault.LineError.{LineError, TheVariants.{Bad, Memory}}, reason.Reason.{Reason}}}, proofs.Firsts.{First-same}}
use Rattle.script_lines.specs.declared.reason.Reason.TheVariants as reasons
use Rattle.pair_script.{specs.{Fault.{FailsAfterOpening as PairFails, FailsToCall, order_of_reasons}, Opening.{IsFree, IsItemOpening, opening_word}, declared.opening.Opening.{Opening}}, proofs.{Judging.{same_reasons}, Openings.{one_opening, same_values, same_word}}}
use Rattle.pair_script.specs.declared.opening.Opening.TheVariants as openings
use Rattle.amt_dual_script.specs.{Fault.{FailsAfter, FailsAfterOpening, FailsInFamily, FailsToCallMachine, of_call, of_none, of_opening}, Gateways.{is_name_given}, declared.script.{DualGateway.{DualGateway}, DualItem.{DualItem}}}

-- what fails for the same reasons fails for the same reason first
same_first : (P Q : Reason → Type 0) (error : LineError) → ((reason : Reason) → P reason ↔ Q reason) → FailsFirst P order_of_reasons error → FailsFirst Q order_of_reasons error
same_first P Q (Bad reason) same first = First-same P Q order_of_reasons reason (same_reasons P Q order_of_reasons same) first
same_first P Q Memory same first = tt

-- after a word that begins lines of items, what is wrong with a line is what is wrong with one of a pair's script
pub fails_as_pair : (given : List Setting) (gateways : List DualGateway) (before : List DualItem) (opening : Opening) (values : List (List ℕ)) (reason : Reason)
    → IsItemOpening opening → FailsAfterOpening given gateways before opening values reason → PairFails [] [] [] opening values reason
fails_as_pair given gateways before openings.Set values reason is fails = absurd is
fails_as_pair given gateways before openings.Gateway values reason is fails = absurd is
fails_as_pair given gateways before opening values reason is fails = fails

pub judged_as_pair : (given : List Setting) (gateways : List DualGateway) (before : List DualItem) (opening : Opening) (values : List (List ℕ)) (error : LineError)
    → IsItemOpening opening → FailsFirst (PairFails [] [] [] opening values) order_of_reasons error
    → FailsFirst (FailsAfterOpening given gateways before opening values) order_of_reasons error
judged_as_pair given gateways before openings.Set values error is first = absurd is
judged_as_pair given gateways before openings.Gateway values error is first = absurd is
judged_as_pair given gateways before opening values error is first = first

-- what is wrong with a line after a word that begins lines is what is wrong with the fields after the word
pub opened_fails : (given : List Setting) (gateways : List DualGateway) (items : List DualItem) (opening : Opening) (values line : List (List ℕ)) (reason : Reason)
    → line ≡ opening_word opening ∷ values → FailsAfter given gateways items line reason → FailsAfterOpening given gateways items opening values reason
opened_fails given gateways items opening values line reason parts (of_opening other others same fails) =
    let both = sym same ∙ parts in
    subst (λ (vs : List (List ℕ)). FailsAfterOpening given gateways items opening vs reason) (same_values _ _ others values both)
    (subst (λ (o : Opening). FailsAfterOpening given gateways items o others reason) (one_opening other opening (same_word _ _ others values both)) fails)
opened_fails given gateways items opening values line reason parts (of_call name others same free found fails) =
    absurd (free opening (same_word _ _ others values (sym same ∙ parts)))
opened_fails given gateways items opening values line reason parts (of_none word others same free found is) =
    absurd (free opening (same_word _ _ others values (sym same ∙ parts)))

-- and after the name of a gateway, what is wrong with them as a socket call of one of its machines
pub named_fails : (given : List Setting) (gateways : List DualGateway) (items : List DualItem) (name : List ℕ) (values line : List (List ℕ)) (reason : Reason)
    → line ≡ name ∷ values → IsFree name → is_name_given gateways name ≡ true → FailsAfter given gateways items line reason → FailsToCallMachine values reason
named_fails given gateways items name values line reason parts free found (of_opening opening others same fails) =
    absurd (free opening (same_word _ _ values others (sym parts ∙ same)))
named_fails given gateways items name values line reason parts free found (of_call other others same free' found' fails) =
    subst (λ (vs : List (List ℕ)). FailsToCallMachine vs reason) (same_values _ _ others values (sym same ∙ parts)) fails
named_fails given gateways items name values line reason parts free found (of_none word others same free' none is) =
    let is_name = same_word _ _ others values (sym same ∙ parts) in
    let not_given = subst (λ (n : List ℕ). is_name_given gateways n ≡ false) is_name none in
    cc (sym not_given ∙ found)

pub opened_judged : (given : List Setting) (gateways : List DualGateway) (items : List DualItem) (opening : Opening) (word : List ℕ) (values : List (List ℕ)) (error : LineError)
    → word ≡ opening_word opening → FailsFirst (FailsAfterOpening given gateways items opening values) order_of_reasons error
    → FailsFirst (FailsAfter given gateways items (word ∷ values)) order_of_reasons error
opened_judged given gateways items opening word values error is first =
    let parts = ap (λ (w : List ℕ). w ∷ values) is in
    same_first (FailsAfterOpening given gateways items opening values) (FailsAfter given gateways items (word ∷ values)) error
    (λ r. (λ h. of_opening opening values parts h, λ h. opened_fails given gateways items opening values (word ∷ values) r parts h)) first

pub named_judged : (given : List Setting) (gateways : List DualGateway) (items : List DualItem) (name : List ℕ) (values : List (List ℕ)) (error : LineError)
    → IsFree name → is_name_given gateways name ≡ true → FailsFirst (FailsToCallMachine values) order_of_reasons error
    → FailsFirst (FailsAfter given gateways items (name ∷ values)) order_of_reasons error
named_judged given gateways items name values error free found first =
    same_first (FailsToCallMachine values) (FailsAfter given gateways items (name ∷ values)) error
    (λ r. (λ h. of_call name values refl free found h, λ h. named_fails given gateways items name values (name ∷ values) r refl free found h)) first

pub unknown_word : (given : List Setting) (gateways : List DualGateway) (items : List DualItem) (word : List ℕ) (values : List (List ℕ)) → IsFree word
    → is_name_given gateways word ≡ false → First (FailsAfter given gateways items (word ∷ values)) order_of_reasons reasons.Word
unknown_word given gateways items word values free none = inl (of_none word values refl free none refl, refl)

-- ---- the fields after a gateway's name

pub name_alone : (values : List (List ℕ)) → values ≡ [] → First (FailsToCallMachine values) order_of_reasons reasons.Count
name_alone values none =
    subst (λ (vs : List (List ℕ)). First (FailsToCallMachine vs) order_of_reasons reasons.Count) (sym none)
    (inr (λ h. h, inr (λ h. h, inr (λ h. h, inl (tt, refl)))))

pub unknown_family : (text : List ℕ) (rest values : List (List ℕ)) → values ≡ text ∷ rest → Fails a_family text reasons.Word
    → First (FailsToCallMachine values) order_of_reasons reasons.Word
unknown_family text rest values parts none =
    subst (λ (vs : List (List ℕ)). First (FailsToCallMachine vs) order_of_reasons reasons.Word) (sym parts) (inl (inl none, refl))

fails_of_family : (family : Family) (text : List ℕ) (values : List (List ℕ)) (reason : Reason) → IsFamilyText family text → FailsInFamily text values reason
    → FailsToCall family values reason
fails_of_family family text values reason names fails =
    subst (λ (f : Family). FailsToCall f values reason) (IsFamilyText-unique fails.0 family text fails.1 names) fails.2

-- after the word of a family they fail as a socket call of the family does
pub machine_fails : (family : Family) (text : List ℕ) (values : List (List ℕ)) (reason : Reason) → IsFamilyText family text → FailsToCallMachine (text ∷ values) reason
    → FailsToCall family values reason
machine_fails family text values reasons.Word names (inl none) = absurd (none family names)
machine_fails family text values reasons.Word names (inr fails) = fails_of_family family text values reasons.Word names fails
machine_fails family text values reason names fails = fails_of_family family text values reason names fails

fails_as_machine : (family : Family) (text : List ℕ) (values : List (List ℕ)) (reason : Reason) → IsFamilyText family text → FailsToCall family values reason
    → FailsToCallMachine (text ∷ values) reason
fails_as_machine family text values reasons.Word names fails = inr (family, names, fails)
fails_as_machine family text values reason names fails = (family, names, fails)

pub machine_judged : (family : Family) (text : List ℕ) (rest values : List (List ℕ)) (error : LineError) → values ≡ text ∷ rest → IsFamilyText family text
    → FailsFirst (FailsToCall family rest) order_of_reasons error → FailsFirst (FailsToCallMachine values) order_of_reasons error
machine_judged family text rest values error parts names first =
    subst (λ (vs : List (List ℕ)). FailsFirst (FailsToCallMachine vs) order_of_reasons error) (sym parts)
    (same_first (FailsToCall family rest) (FailsToCallMachine (text ∷ rest)) error
    (λ r. (λ h. fails_as_machine family text rest r names h, λ h. machine_fails family text rest r names h)) first)
