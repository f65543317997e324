-- Nothing is wrong with a line that says something.
use Rattle.std.proofs.Common.{◌≡◌, ℕ, true, List, [], ◌∷◌, inl, inr, refl, sym, subst, ◌∙◌}
use Rattle.amt_values.proofs.Unique.{IsPeerText-unique}
use Rattle.amt_script.{specs.{Row.{key_word}, Says.{SaysSetting}, Setting.{key_of}, declared.setting.Setting.{Setting}}, proofs.Says.{setting_is_fit}}
use Rattle.script_lines.specs.declared.reason.Reason.{Reason}
use Rattle.script_lines.specs.declared.reason.Reason.TheVariants as reasons
use Rattle.socket_merge.specs.FullReport.{family_by}
use Rattle.pair_script.{specs.Fault.{of_opening as of_pair_opening}, proofs.Good.{call_is_said, item_is_good as pair_item_is_good, set_is_good}}
use Rattle.pair_script.specs.declared.opening.Opening.TheVariants as openings
use Rattle.amt_dual_script.specs.{Fault.{FailsAfter, FailsAsGateway, FailsToAdd}, Gateways.{is_peer_given}, Says.{SaysGateway}, Script.{MayAdd, SaysAfter}, declared.{script.{DualGateway.{DualGateway}, DualItem.{DualItem}}, statement.DualStatement.{DualStatement}}}
use Rattle.amt_dual_script.proofs.{Beginnings.{IsSaid, call, is_said, shared}, Judging.{fails_as_pair, machine_fails, named_fails, opened_fails}}
use Rattle.amt_dual_script.specs.declared.statement.DualStatement.TheVariants as statements

abbrev ValuesOf : DualGateway → List ℕ → List ℕ → List ℕ → List (List ℕ)
ValuesOf gateway peer source4 source6 = gateway.name ∷ peer ∷ source4 ∷ source6 ∷ []

fields_are_good : (gateway : DualGateway) (line : List (List ℕ)) (reason : Reason) → (says : SaysGateway gateway line)
    → FailsAsGateway (ValuesOf gateway says.peer says.source4 says.source6) reason → ⊥
fields_are_good gateway line reasons.Count says fails = fails refl
fields_are_good gateway line reasons.Address says (inl fails) = fails gateway.source4 says.names_source4
fields_are_good gateway line reasons.Address says (inr fails) = fails gateway.source6 says.names_source6
fields_are_good gateway line reasons.Peer says fails = fails gateway.peer says.names_peer
fields_are_good gateway line reasons.Name says fails = fails says.names
fields_are_good gateway line reason says fails = fails

new_is_good : (gateways : List DualGateway) (before : List DualItem) (gateway : DualGateway) (line : List (List ℕ)) (reason : Reason) → MayAdd gateways before gateway
    → (says : SaysGateway gateway line) → FailsToAdd gateways before (ValuesOf gateway says.peer says.source4 says.source6) reason → ⊥
new_is_good gateways before gateway line reasons.Late may says fails = fails may.early
new_is_good gateways before gateway line reasons.Twice may says (inl named) = cc (sym may.new.name ∙ named)
new_is_good gateways before gateway line reasons.Twice may says (inr peer) =
    let same = IsPeerText-unique peer.0 gateway.peer says.peer peer.1 says.names_peer in
    let given = subst (λ (p : _). is_peer_given gateways p ≡ true) same peer.2 in
    cc (sym may.new.peer ∙ given)
new_is_good gateways before gateway line reason may says fails = fields_are_good gateway line reason says fails

item_is_good : (given : List Setting) (gateways : List DualGateway) (before : List DualItem) (item : DualItem) (line : List (List ℕ)) (reason : Reason)
    → IsSaid gateways item line → FailsAfter given gateways before line reason → ⊥
item_is_good given gateways before item line reason (shared k) fails =
    let opened = k.opened in
    let as_pair = fails_as_pair given gateways before k.opening opened.values reason k.of_items
    (opened_fails given gateways before k.opening opened.values line reason opened.parts fails) in
    pair_item_is_good [] [] [] k.pair line reason k.says (of_pair_opening k.opening opened.values opened.parts as_pair)
item_is_good given gateways before item line reason (call name v6 event is says) fails =
    let as_call = machine_fails (family_by v6) says.family says.values reason says.names_family
    (named_fails given gateways before name (says.family ∷ says.values) line reason says.parts says.free says.given fails) in
    call_is_said (family_by v6) event says.values reason says.call says.says as_call

pub no_statement : (given : List Setting) (gateways : List DualGateway) (before : List DualItem) (one : DualStatement) (line : List (List ℕ)) (reason : Reason)
    → SaysAfter given gateways before one line → FailsAfter given gateways before line reason → ⊥
no_statement given gateways before (statements.Setting setting) line reason says fails =
    let fit = setting_is_fit setting line says.1 in
    let values = key_word (key_of setting) ∷ fit.values in
    set_is_good given before setting values reason says.0 (subst (SaysSetting setting) fit.parts says.1)
    (opened_fails given gateways before openings.Set values line reason fit.parts fails)
no_statement given gateways before (statements.Gateway gateway) line reason says fails =
    let said = says.1 in
    new_is_good gateways before gateway line reason says.0 said
    (opened_fails given gateways before openings.Gateway (ValuesOf gateway said.peer said.source4 said.source6) line reason said.parts fails)
no_statement given gateways before (statements.Item item) line reason says fails = item_is_good given gateways before item line reason (is_said gateways item line says) fails
