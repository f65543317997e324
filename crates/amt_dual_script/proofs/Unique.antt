-- A line says one thing.
use Rattle.std.proofs.Common.{◌≡◌, ℕ, Bool, List, [], ◌∷◌, Some, refl, sym, subst, ap, ◌∙◌}
use Rattle.amt_values.{specs.{Text.{IsIpText, IsPeerText}, declared.address.Ip.TheVariants.{V4, V6}}, proofs.Unique.{IsIpText-unique, IsPeerText-unique}}
use Rattle.amt_script.{specs.declared.setting.Setting.{Setting}, proofs.Unique.{SaysSetting-unique}}
use Rattle.gateway_machine.specs.declared.event.GatewayEvent.{GatewayEvent}
use Rattle.gateway_script.{specs.Says.{SaysEvent}, proofs.{Fields.{IsFamilyText-unique}, Unique.{SaysEvent-unique}}}
use Rattle.group_records.specs.declared.family.Family.{Family}
use Rattle.script_lines.{specs.Form.{IsFamilyText}, proofs.Forms.{address4, address6}}
use Rattle.socket_merge.specs.FullReport.{family_by}
use Rattle.pair_script.{specs.{Opening.{IsItemOpening}, Says.{SaysItemAfter as PairSaysItem}, declared.{opening.Opening.{Opening}, script.PairItem.{PairItem}}}, proofs.{Beginnings.{IsOpened}, Openings.{same_values, same_word}, Unique.{one_statement as one_pair_statement, same_family}}}
use Rattle.pair_script.specs.declared.opening.Opening.TheVariants as openings
use Rattle.pair_script.specs.declared.statement.PairStatement.TheVariants as pair_statements
use Rattle.amt_dual.specs.declared.event.DualPairEvent.TheVariants as events
use Rattle.amt_dual_script.specs.{Says.{SaysCall, SaysGateway}, Script.{SaysAfter}, declared.{script.{DualGateway.{DualGateway}, DualItem.{DualItem}}, statement.DualStatement.{DualStatement}}}
use Rattle.amt_dual_script.proofs.Beginnings.{IsSaid, as_dual, call, call_named, gateway_opened, is_said, not_named, one_opened, setting_opened, shared}
use Rattle.amt_dual_script.specs.declared.script.DualItem.TheVariants as items
use Rattle.amt_dual_script.specs.declared.statement.DualStatement.TheVariants as statements

gateway_with : (one other : DualGateway) → one.name ≡ other.name → one.peer ≡ other.peer → one.source4 ≡ other.source4 → one.source6 ≡ other.source6 → one ≡ other
gateway_with one other same_name same_peer same_source4 same_source6 =
    λ i. record { name = same_name i; peer = same_peer i; source4 = same_source4 i; source6 = same_source6 i }

SaysGateway-unique : (one other : DualGateway) (line : List (List ℕ)) → SaysGateway one line → SaysGateway other line → one ≡ other
SaysGateway-unique one other line h k =
    let both = sym h.parts ∙ k.parts in
    let name : one.name ≡ other.name = cc in
    let peer : h.peer ≡ k.peer = cc in
    let source4 : h.source4 ≡ k.source4 = cc in
    let source6 : h.source6 ≡ k.source6 = cc in
    let same4 = IsIpText-unique (V4 one.source4) (V4 other.source4) k.source4 (subst (IsIpText (V4 one.source4)) source4 h.names_source4) k.names_source4 in
    let same6 = IsIpText-unique (V6 one.source6) (V6 other.source6) k.source6 (subst (IsIpText (V6 one.source6)) source6 h.names_source6) k.names_source6 in
    gateway_with one other name (IsPeerText-unique one.peer other.peer k.peer (subst (IsPeerText one.peer) peer h.names_peer) k.names_peer)
    (address4 one.source4 other.source4 same4) (address6 one.source6 other.source6 same6)

call_with : (name name' : List ℕ) (v6 v6' : Bool) (event event' : GatewayEvent) → name ≡ name' → v6 ≡ v6' → event ≡ event'
    → items.Event (events.Socket name v6 event) ≡ items.Event (events.Socket name' v6' event')
call_with name name' v6 v6' event event' same_name same_v6 same_event = rw (same_name, same_v6, same_event) refl

SaysCall-unique : (gateways : List DualGateway) (name name' : List ℕ) (v6 v6' : Bool) (event event' : GatewayEvent) (line : List (List ℕ))
    → SaysCall gateways name v6 event line → SaysCall gateways name' v6' event' line → items.Event (events.Socket name v6 event) ≡ items.Event (events.Socket name' v6' event')
SaysCall-unique gateways name name' v6 v6' event event' line h k =
    let both = sym h.parts ∙ k.parts in
    let is_name = same_word name name' (h.family ∷ h.values) (k.family ∷ k.values) both in
    let rest = same_values name name' (h.family ∷ h.values) (k.family ∷ k.values) both in
    let family = same_word h.family k.family h.values k.values rest in
    let values = same_values h.family k.family h.values k.values rest in
    let families = IsFamilyText-unique (family_by v6) (family_by v6') k.family (subst (IsFamilyText (family_by v6)) family h.names_family) k.names_family in
    let says = subst (λ (vs : List (List ℕ)). SaysEvent (Some (family_by v6')) event vs) values
    (subst (λ (f : Family). SaysEvent (Some f) event h.values) families h.says) in
    call_with name name' v6 v6' event event' is_name (same_family v6 v6' families) (SaysEvent-unique (Some (family_by v6')) event event' k.values says k.says)

item_of : (one other : PairItem) → pair_statements.Item one ≡ pair_statements.Item other → one ≡ other
item_of one other same = cc same

one_pair_item : (one other : PairItem) (line : List (List ℕ)) → PairSaysItem [] one line → PairSaysItem [] other line → one ≡ other
one_pair_item one other line h k = item_of one other (one_pair_statement [] [] [] (pair_statements.Item one) (pair_statements.Item other) line h k)

one_item : (gateways : List DualGateway) (one other : DualItem) (line : List (List ℕ)) → IsSaid gateways one line → IsSaid gateways other line → one ≡ other
one_item gateways one other line (shared h) (shared k) = h.item_is ∙ (ap as_dual (one_pair_item h.pair k.pair line h.says k.says) ∙ sym k.item_is)
one_item gateways one other line (shared h) (call name v6 event is says) = absurd (not_named h.opening line h.opened (call_named gateways name v6 event line says))
one_item gateways one other line (call name v6 event is says) (shared k) = absurd (not_named k.opening line k.opened (call_named gateways name v6 event line says))
one_item gateways one other line (call name v6 event is h) (call name' v6' event' is' k) =
    is ∙ (SaysCall-unique gateways name name' v6 v6' event event' line h k ∙ sym is')

-- no item begins as a setting or a gateway
no_item : (gateways : List DualGateway) (opening : Opening) (item : DualItem) (line : List (List ℕ)) → (IsItemOpening opening → ⊥) → IsOpened opening line
    → IsSaid gateways item line → ⊥
no_item gateways opening item line none opened (shared k) = none (subst IsItemOpening (sym (one_opened opening k.opening line opened k.opened)) k.of_items)
no_item gateways opening item line none opened (call name v6 event is says) = not_named opening line opened (call_named gateways name v6 event line says)

-- nor a setting as a gateway
no_setting : (line : List (List ℕ)) → IsOpened openings.Set line → IsOpened openings.Gateway line → ⊥
no_setting line h k = cc (one_opened openings.Set openings.Gateway line h k)

pub one_statement : (given : List Setting) (gateways : List DualGateway) (before : List DualItem) (one other : DualStatement) (line : List (List ℕ))
    → SaysAfter given gateways before one line → SaysAfter given gateways before other line → one ≡ other
one_statement given gateways before (statements.Setting x) (statements.Setting y) line h k = ap (λ (s : Setting). statements.Setting s) (SaysSetting-unique x y line h.1 k.1)
one_statement given gateways before (statements.Gateway x) (statements.Gateway y) line h k = ap (λ (g : DualGateway). statements.Gateway g) (SaysGateway-unique x y line h.1 k.1)
one_statement given gateways before (statements.Item x) (statements.Item y) line h k =
    ap (λ (i : DualItem). statements.Item i) (one_item gateways x y line (is_said gateways x line h) (is_said gateways y line k))
one_statement given gateways before (statements.Setting x) (statements.Gateway y) line h k = absurd (no_setting line (setting_opened x line h.1) (gateway_opened y line k.1))
one_statement given gateways before (statements.Gateway x) (statements.Setting y) line h k = absurd (no_setting line (setting_opened y line k.1) (gateway_opened x line h.1))
one_statement given gateways before (statements.Setting x) (statements.Item y) line h k =
    absurd (no_item gateways openings.Set y line (λ none. none) (setting_opened x line h.1) (is_said gateways y line k))
one_statement given gateways before (statements.Item x) (statements.Setting y) line h k =
    absurd (no_item gateways openings.Set x line (λ none. none) (setting_opened y line k.1) (is_said gateways x line h))
one_statement given gateways before (statements.Gateway x) (statements.Item y) line h k =
    absurd (no_item gateways openings.Gateway y line (λ none. none) (gateway_opened x line h.1) (is_said gateways y line k))
one_statement given gateways before (statements.Item x) (statements.Gateway y) line h k =
    absurd (no_item gateways openings.Gateway x line (λ none. none) (gateway_opened y line k.1) (is_said gateways x line h))
