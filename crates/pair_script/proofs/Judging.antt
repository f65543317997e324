-- The first reason why a line is bad, by its first word.
use Rattle.std.{proofs.Common.{◌≡◌, ◌↔◌, ℕ, List, [], ◌∷◌, Option, None, Some, inl, refl, sym, subst, ap, ◌∙◌}, specs.List.{AllByRecursion}}
use Rattle.amt_script.specs.declared.setting.Setting.{Setting}
use Rattle.amt_values.specs.Conditions.{First}
use Rattle.script_lines.{specs.{Reading.{FailsFirst}, declared.{fault.LineError.{LineError, TheVariants.{Bad, Memory}}, reason.Reason.{Reason}}}, proofs.Firsts.{First-same}}
use Rattle.script_lines.specs.declared.reason.Reason.TheVariants as reasons
use Rattle.pair_script.{specs.{Fault.{FailsAfter, FailsAfterOpening, FailsToCall, of_call, of_none, of_opening, order_of_reasons}, Gateways.{family_of, gateway_named}, Opening.{IsFree, opening_word}, declared.{opening.Opening.{Opening}, script.{PairGateway.{PairGateway}, PairItem.{PairItem}}}}, proofs.Openings.{one_opening, same_values, same_word}}

-- what is wrong with a line after a word that begins lines is what is wrong with the fields after the word
pub opened_fails : (given : List Setting) (gateways : List PairGateway) (items : List PairItem) (opening : Opening) (values line : List (List ℕ)) (reason : Reason)
    → line ≡ opening_word opening ∷ values → FailsAfter given gateways items line reason → FailsAfterOpening given gateways items opening values reason
opened_fails given gateways items opening values line reason parts (of_opening other others same fails) =
    let both = sym same ∙ parts in
    subst (λ (vs : List (List ℕ)). FailsAfterOpening given gateways items opening vs reason) (same_values _ _ others values both)
    (subst (λ (o : Opening). FailsAfterOpening given gateways items o others reason) (one_opening other opening (same_word _ _ others values both)) fails)
opened_fails given gateways items opening values line reason parts (of_call name gateway others same free found fails) =
    absurd (free opening (same_word _ _ others values (sym same ∙ parts)))
opened_fails given gateways items opening values line reason parts (of_none word others same free found is) =
    absurd (free opening (same_word _ _ others values (sym same ∙ parts)))

pub same_gateway : (found : Option PairGateway) (one other : PairGateway) → found ≡ Some one → found ≡ Some other → one ≡ other
same_gateway found one other h k = cc (sym h ∙ k)

-- and after the name of a gateway, what is wrong with them as a socket call
pub named_fails : (given : List Setting) (gateways : List PairGateway) (items : List PairItem) (name : List ℕ) (gateway : PairGateway)
    (values line : List (List ℕ)) (reason : Reason) → line ≡ name ∷ values → IsFree name → gateway_named gateways name ≡ Some gateway
    → FailsAfter given gateways items line reason → FailsToCall (family_of gateway) values reason
named_fails given gateways items name gateway values line reason parts free given_as (of_opening opening others same fails) =
    absurd (free opening (same_word _ _ values others (sym parts ∙ same)))
named_fails given gateways items name gateway values line reason parts free given_as (of_call other gateway' others same free' found fails) =
    let both = sym same ∙ parts in
    let is_name = same_word _ _ others values both in
    let is_gateway = same_gateway (gateway_named gateways name) gateway' gateway (subst (λ (n : List ℕ). gateway_named gateways n ≡ Some gateway') is_name found) given_as in
    subst (λ (vs : List (List ℕ)). FailsToCall (family_of gateway) vs reason) (same_values _ _ others values both)
    (subst (λ (g : PairGateway). FailsToCall (family_of g) others reason) is_gateway fails)
named_fails given gateways items name gateway values line reason parts free given_as (of_none word others same free' found is) =
    let is_name = same_word _ _ others values (sym same ∙ parts) in
    let none = subst (λ (n : List ℕ). gateway_named gateways n ≡ None) is_name found in
    cc (sym none ∙ given_as)

pub same_reasons : (P Q : Reason → Type 0) (order : List Reason) → ((reason : Reason) → P reason ↔ Q reason) → AllByRecursion (λ reason. P reason ↔ Q reason) order
same_reasons P Q [] same = tt
same_reasons P Q (next ∷ more) same = (same next, same_reasons P Q more same)

pub opened_judged : (given : List Setting) (gateways : List PairGateway) (items : List PairItem) (opening : Opening) (word : List ℕ) (values : List (List ℕ)) (error : LineError)
    → word ≡ opening_word opening → FailsFirst (FailsAfterOpening given gateways items opening values) order_of_reasons error
    → FailsFirst (FailsAfter given gateways items (word ∷ values)) order_of_reasons error
opened_judged given gateways items opening word values (Bad reason) is first =
    let parts = ap (λ (w : List ℕ). w ∷ values) is in
    First-same (FailsAfterOpening given gateways items opening values) (FailsAfter given gateways items (word ∷ values)) order_of_reasons reason
    (same_reasons (FailsAfterOpening given gateways items opening values) (FailsAfter given gateways items (word ∷ values)) order_of_reasons
    (λ r. (λ h. of_opening opening values parts h, λ h. opened_fails given gateways items opening values (word ∷ values) r parts h))) first
opened_judged given gateways items opening word values Memory is first = tt

pub named_judged : (given : List Setting) (gateways : List PairGateway) (items : List PairItem) (name : List ℕ) (gateway : PairGateway) (values : List (List ℕ)) (error : LineError)
    → IsFree name → gateway_named gateways name ≡ Some gateway → FailsFirst (FailsToCall (family_of gateway) values) order_of_reasons error
    → FailsFirst (FailsAfter given gateways items (name ∷ values)) order_of_reasons error
named_judged given gateways items name gateway values (Bad reason) free found first =
    First-same (FailsToCall (family_of gateway) values) (FailsAfter given gateways items (name ∷ values)) order_of_reasons reason
    (same_reasons (FailsToCall (family_of gateway) values) (FailsAfter given gateways items (name ∷ values)) order_of_reasons
    (λ r. (λ h. of_call name gateway values refl free found h, λ h. named_fails given gateways items name gateway values (name ∷ values) r refl free found h))) first
named_judged given gateways items name gateway values Memory free found first = tt

pub unknown_word : (given : List Setting) (gateways : List PairGateway) (items : List PairItem) (word : List ℕ) (values : List (List ℕ)) → IsFree word
    → gateway_named gateways word ≡ None → First (FailsAfter given gateways items (word ∷ values)) order_of_reasons reasons.Word
unknown_word given gateways items word values free none = inl (of_none word values refl free none refl, refl)
