-- A line says one thing.
use Rattle.std.proofs.Common.{◌≡◌, ℕ, Bool, true, false, List, Some, refl, sym, subst, ap, ◌∙◌}
use Rattle.amt_values.{specs.Text.{IsPeerText}, proofs.Unique.{IsPeerText-unique}}
use Rattle.amt_script.specs.declared.script.RelayItem.TheVariants as relay_items
use Rattle.amt_script.{specs.declared.setting.Setting.{Setting}, proofs.Unique.{SaysItem-unique, SaysSetting-unique}}
use Rattle.gateway_machine.specs.declared.event.GatewayEvent.{GatewayEvent}
use Rattle.gateway_script.{specs.Says.{SaysEvent}, proofs.{Fields.{IsAddressText-unique, IsFamilyText-unique}, Unique.{SaysEvent-unique}}}
use Rattle.group_records.specs.declared.family.Family.{Family}
use Rattle.relay_machine.specs.declared.event.Event.TheVariants as relay_events
use Rattle.response_mac.specs.declared.secret.Secret.{Secret}
use Rattle.script_lines.{specs.Form.{IsAddressText, IsFamilyText, IsMomentText}, proofs.Forms.{IsMomentText-unique, one_field}}
use Rattle.socket_merge.specs.FullReport.{family_by}
use Rattle.amt_pair.specs.declared.event.PairEvent.{PairEvent}
use Rattle.amt_pair.specs.declared.event.PairEvent.TheVariants as events
use Rattle.pair_script.specs.{Gateways.{family_of, gateway_named}, Says.{SaysCall, SaysEventAfter, SaysGateway, SaysItemAfter}, Script.{SaysAfter}, declared.script.{PairGateway.{PairGateway}, PairItem.{PairItem}}}
use Rattle.pair_script.{specs.declared.statement.PairStatement.{PairStatement}, proofs.{Beginnings.{opening_of_event, opening_of_item, opening_of_statement, same_beginning, statement_begins}, Judging.{same_gateway}, Openings.{same_values, same_word}}}
use Rattle.pair_script.specs.declared.script.PairItem.TheVariants as items
use Rattle.pair_script.specs.declared.statement.PairStatement.TheVariants as statements

pub same_family : (one other : Bool) → family_by one ≡ family_by other → one ≡ other
same_family true true same = refl
same_family true false same = cc same
same_family false true same = cc same
same_family false false same = refl

gateway_with : (one other : PairGateway) → one.name ≡ other.name → one.peer ≡ other.peer → one.v6 ≡ other.v6 → one.source ≡ other.source → one ≡ other
gateway_with one other same_name same_peer same_v6 same_source =
    λ i. record { name = same_name i; peer = same_peer i; v6 = same_v6 i; source = same_source i }

pub SaysGateway-unique : (one other : PairGateway) (line : List (List ℕ)) → SaysGateway one line → SaysGateway other line → one ≡ other
SaysGateway-unique one other line h k =
    let both = sym h.parts ∙ k.parts in
    let name : one.name ≡ other.name = cc in
    let peer : h.peer ≡ k.peer = cc in
    let family : h.family ≡ k.family = cc in
    let source : h.source ≡ k.source = cc in
    let families = IsFamilyText-unique (family_of one) (family_of other) k.family (subst (IsFamilyText (family_of one)) family h.names_family) k.names_family in
    let v6 = same_family one.v6 other.v6 families in
    let is_source = subst (λ (f : Family). IsAddressText (Some f) one.source k.source) families
    (subst (IsAddressText (Some (family_of one)) one.source) source h.names_source) in
    gateway_with one other name (IsPeerText-unique one.peer other.peer k.peer (subst (IsPeerText one.peer) peer h.names_peer) k.names_peer) v6
    (IsAddressText-unique (Some (family_of other)) one.source other.source k.source is_source k.names_source)

call_with : (name name' : List ℕ) (event event' : GatewayEvent) → name ≡ name' → event ≡ event' → events.Socket name event ≡ events.Socket name' event'
call_with name name' event event' same_name same_event = rw (same_name, same_event) refl

SaysCall-unique : (gateways : List PairGateway) (name name' : List ℕ) (event event' : GatewayEvent) (line : List (List ℕ))
    → SaysCall gateways name event line → SaysCall gateways name' event' line → events.Socket name event ≡ events.Socket name' event'
SaysCall-unique gateways name name' event event' line h k =
    let both = sym h.parts ∙ k.parts in
    let is_name = same_word name name' h.values k.values both in
    let values = same_values name name' h.values k.values both in
    let gateway = same_gateway (gateway_named gateways name') h.gateway k.gateway (subst (λ (n : List ℕ). gateway_named gateways n ≡ Some h.gateway) is_name h.given) k.given in
    let says = subst (λ (vs : List (List ℕ)). SaysEvent (Some (family_of k.gateway)) event vs) values
    (subst (λ (g : PairGateway). SaysEvent (Some (family_of g)) event h.values) gateway h.says) in
    call_with name name' event event' is_name (SaysEvent-unique (Some (family_of k.gateway)) event event' k.values says k.says)

at_of : (x y : ℕ) → relay_items.Event (relay_events.Moment x) ≡ relay_items.Event (relay_events.Moment y) → x ≡ y
at_of x y same = cc same

secret_of : (x y : Secret) → relay_items.Event (relay_events.Rotate x) ≡ relay_items.Event (relay_events.Rotate y) → x ≡ y
secret_of x y same = cc same

bytes_of : (x y : List ℕ) → relay_items.Event (relay_events.Packet x) ≡ relay_items.Event (relay_events.Packet y) → x ≡ y
bytes_of x y same = cc same

SaysEventAfter-same : (gateways : List PairGateway) (one other : PairEvent) (line : List (List ℕ)) → opening_of_event one ≡ opening_of_event other
    → SaysEventAfter gateways one line → SaysEventAfter gateways other line → one ≡ other
SaysEventAfter-same gateways (events.Moment x) (events.Moment y) line same h k = ap (λ (v : ℕ). events.Moment v) (at_of x y (SaysItem-unique _ _ line h k))
SaysEventAfter-same gateways (events.Rotate x) (events.Rotate y) line same h k = ap (λ (v : Secret). events.Rotate v) (secret_of x y (SaysItem-unique _ _ line h k))
SaysEventAfter-same gateways (events.Packet x) (events.Packet y) line same h k = ap (λ (v : List ℕ). events.Packet v) (bytes_of x y (SaysItem-unique _ _ line h k))
SaysEventAfter-same gateways (events.Socket name event) (events.Socket name' event') line same h k = SaysCall-unique gateways name name' event event' line h k
SaysEventAfter-same gateways (events.Up x) (events.Up y) line same h k = ap (λ (v : ℕ). events.Up v) (one_field _ IsMomentText IsMomentText-unique x y line h k)
SaysEventAfter-same gateways (events.Down x) (events.Down y) line same h k = ap (λ (v : ℕ). events.Down v) (one_field _ IsMomentText IsMomentText-unique x y line h k)
SaysEventAfter-same gateways one other line same h k = cc same

-- no event has the opening of `show`
no_show : (event : PairEvent) → opening_of_event event ≡ opening_of_item items.Show → ⊥
no_show (events.Moment at) same = cc same
no_show event same = cc same

pub SaysItemAfter-same : (gateways : List PairGateway) (one other : PairItem) (line : List (List ℕ)) → opening_of_item one ≡ opening_of_item other
    → SaysItemAfter gateways one line → SaysItemAfter gateways other line → one ≡ other
SaysItemAfter-same gateways (items.Event one) (items.Event other) line same h k = ap (λ (event : PairEvent). items.Event event) (SaysEventAfter-same gateways one other line same h k)
SaysItemAfter-same gateways items.Show items.Show line same h k = refl
SaysItemAfter-same gateways (items.Event one) items.Show line same h k = absurd (no_show one same)
SaysItemAfter-same gateways items.Show (items.Event other) line same h k = absurd (no_show other (sym same))

-- no item has the opening of a setting or of a gateway
no_set : (item : PairItem) (setting : Setting) → opening_of_item item ≡ opening_of_statement (statements.Setting setting) → ⊥
no_set items.Show setting same = cc same
no_set (items.Event (events.Moment at)) setting same = cc same
no_set (items.Event event) setting same = cc same

no_gateway : (item : PairItem) (gateway : PairGateway) → opening_of_item item ≡ opening_of_statement (statements.Gateway gateway) → ⊥
no_gateway items.Show gateway same = cc same
no_gateway (items.Event (events.Moment at)) gateway same = cc same
no_gateway (items.Event event) gateway same = cc same

same_statement : (given : List Setting) (gateways : List PairGateway) (before : List PairItem) (one other : PairStatement) (line : List (List ℕ))
    → opening_of_statement one ≡ opening_of_statement other → SaysAfter given gateways before one line → SaysAfter given gateways before other line → one ≡ other
same_statement given gateways before (statements.Setting x) (statements.Setting y) line same h k = ap (λ (s : Setting). statements.Setting s) (SaysSetting-unique x y line h.1 k.1)
same_statement given gateways before (statements.Gateway x) (statements.Gateway y) line same h k = ap (λ (g : PairGateway). statements.Gateway g) (SaysGateway-unique x y line h.1 k.1)
same_statement given gateways before (statements.Item x) (statements.Item y) line same h k = ap (λ (i : PairItem). statements.Item i) (SaysItemAfter-same gateways x y line same h k)
same_statement given gateways before (statements.Setting x) (statements.Gateway y) line same h k = cc same
same_statement given gateways before (statements.Gateway x) (statements.Setting y) line same h k = cc same
same_statement given gateways before (statements.Setting x) (statements.Item y) line same h k = absurd (no_set y x (sym same))
same_statement given gateways before (statements.Item x) (statements.Setting y) line same h k = absurd (no_set x y same)
same_statement given gateways before (statements.Gateway x) (statements.Item y) line same h k = absurd (no_gateway y x (sym same))
same_statement given gateways before (statements.Item x) (statements.Gateway y) line same h k = absurd (no_gateway x y same)

pub one_statement : (given : List Setting) (gateways : List PairGateway) (before : List PairItem) (one other : PairStatement) (line : List (List ℕ))
    → SaysAfter given gateways before one line → SaysAfter given gateways before other line → one ≡ other
one_statement given gateways before one other line h k =
    same_statement given gateways before one other line
    (same_beginning (opening_of_statement one) (opening_of_statement other) line
    (statement_begins given gateways before one line h) (statement_begins given gateways before other line k)) h k
