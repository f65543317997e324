-- Nothing is wrong with a line that says something.
use Rattle.std.proofs.Common.{◌≡◌, ℕ, true, is_some, List, [], ◌∷◌, codes, Option, Some, None, IsSome, inl, inr, refl, sym, subst, ap, ◌∙◌}
use Rattle.amt_values.proofs.Unique.{IsPeerText-unique}
use Rattle.amt_script.{specs.{Row.{key_word}, Says.{SaysSetting}, Script.{MaySet}, SetLine.{FailsInKey, FailsToSet}, Setting.{key_of, set_at}, declared.setting.Setting.{Setting}}, proofs.{Judging.{fails_as, twice_at}, Says.{setting_is_fit}}}
use Rattle.amt_script.specs.declared.kind.Kind.TheVariants as kinds
use Rattle.gateway_machine.specs.{Answers.{call_in}, declared.event.GatewayEvent.{GatewayEvent}}
use Rattle.gateway_machine.specs.declared.event.GatewayEvent.TheVariants as gateway_events
use Rattle.gateway_script.{specs.Says.{SaysEvent}, proofs.{Fields.{family_fits}, SocketCalls.{call_is_good}}}
use Rattle.group_records.specs.declared.family.Family.{Family}
use Rattle.script_lines.{specs.{Form.{a_moment, a_secret, some_octets}, declared.reason.Reason.{Reason}}, proofs.Forms.{moment_fits, none_fits, octets_fit, one_fits, secret_fits}}
use Rattle.script_lines.specs.declared.reason.Reason.TheVariants as reasons
use Rattle.amt_pair.specs.declared.event.PairEvent.{PairEvent}
use Rattle.amt_pair.specs.declared.event.PairEvent.TheVariants as events
use Rattle.pair_script.{specs.{Fault.{FailsAfter, FailsAsGateway, FailsToAdd, FailsToCall}, Gateways.{family_of, gateway_named, is_peer_given}, Says.{SaysEventAfter, SaysGateway, SaysItemAfter}, Script.{MayAdd, SaysAfter}, declared.{script.{PairGateway.{PairGateway}, PairItem.{PairItem}}, statement.PairStatement.{PairStatement}}}, proofs.Judging.{named_fails, opened_fails}}
use Rattle.pair_script.specs.declared.opening.Opening.TheVariants as openings
use Rattle.pair_script.specs.declared.script.PairItem.TheVariants as items
use Rattle.pair_script.specs.declared.statement.PairStatement.TheVariants as statements

pub some_and_none : {X : Type 0} → (o : Option X) → o ≡ None → IsSome o → ⊥
some_and_none None none some = cc some
some_and_none (Some x) none some = cc none

set_with : (texts others : List (List ℕ)) → texts ≡ others → codes "set" ∷ texts ≡ codes "set" ∷ others
set_with texts others parts = ap (λ (ts : List (List ℕ)). codes "set" ∷ ts) parts

rest_of_set : (texts others : List (List ℕ)) → codes "set" ∷ texts ≡ codes "set" ∷ others → texts ≡ others
rest_of_set texts others same = cc same

key_is_good : (setting : Setting) (values : List (List ℕ)) (reason : Reason) → SaysSetting setting (codes "set" ∷ values) → FailsInKey values reason → ⊥
key_is_good setting values reason says fails =
    let line = codes "set" ∷ values in
    let fit = setting_is_fit setting line says in
    fit.fits reason (fails_as (kinds.Set (key_of setting)) fit.values line reason fit.parts (kinds.Set fails.0, fails.1, set_with values _ fails.2, fails.3))

no_word : (setting : Setting) (values others texts : List (List ℕ)) (word : List ℕ) → values ≡ key_word (key_of setting) ∷ others → values ≡ word ∷ texts → word ≡ key_word (key_of setting)
no_word setting values others texts word parts same = let both = sym same ∙ parts in cc both

pub set_is_good : {I : Type 0} → (given : List Setting) (before : List I) (setting : Setting) (values : List (List ℕ)) (reason : Reason) → MaySet given before setting
    → SaysSetting setting (codes "set" ∷ values) → FailsToSet given before values reason → ⊥
set_is_good given before setting values reasons.Word may says fails =
    let fit = setting_is_fit setting (codes "set" ∷ values) says in
    fails.no_key (key_of setting) (no_word setting values fit.values fails.values fails.word (rest_of_set values (key_word (key_of setting) ∷ fit.values) fit.parts) fails.parts)
set_is_good given before setting values reasons.Late may says fails = fails may.early
set_is_good given before setting values reasons.Twice may says fails =
    let line = codes "set" ∷ values in
    let fit = setting_is_fit setting line says in
    some_and_none (set_at given (key_of setting)) may.new
    (twice_at given line (key_of setting) fit.values fit.parts fails.0 fails.1 (set_with values _ fails.2) fails.3)
set_is_good given before setting values reasons.Count may says (inl alone) =
    let fit = setting_is_fit setting (codes "set" ∷ values) says in
    let both = sym alone ∙ rest_of_set values (key_word (key_of setting) ∷ fit.values) fit.parts in
    cc both
set_is_good given before setting values reasons.Count may says (inr fails) = key_is_good setting values reasons.Count says fails
set_is_good given before setting values reason may says fails = key_is_good setting values reason says fails

abbrev ValuesOf : PairGateway → List ℕ → List ℕ → List ℕ → List (List ℕ)
ValuesOf gateway peer family source = gateway.name ∷ peer ∷ family ∷ source ∷ []

fields_are_good : (gateway : PairGateway) (line : List (List ℕ)) (reason : Reason) → (says : SaysGateway gateway line)
    → FailsAsGateway (ValuesOf gateway says.peer says.family says.source) reason → ⊥
fields_are_good gateway line reasons.Word says fails = family_fits (family_of gateway) says.family says.names_family reasons.Word fails
fields_are_good gateway line reasons.Count says fails = fails refl
fields_are_good gateway line reasons.Address says fails = fails (family_of gateway) says.names_family gateway.source says.names_source
fields_are_good gateway line reasons.Peer says fails = fails gateway.peer says.names_peer
fields_are_good gateway line reasons.Name says fails = fails says.names
fields_are_good gateway line reason says fails = fails

new_is_good : (gateways : List PairGateway) (before : List PairItem) (gateway : PairGateway) (line : List (List ℕ)) (reason : Reason) → MayAdd gateways before gateway
    → (says : SaysGateway gateway line) → FailsToAdd gateways before (ValuesOf gateway says.peer says.family says.source) reason → ⊥
new_is_good gateways before gateway line reasons.Late may says fails = fails may.early
new_is_good gateways before gateway line reasons.Twice may says (inl named) = some_and_none (gateway_named gateways gateway.name) may.new.name named
new_is_good gateways before gateway line reasons.Twice may says (inr peer) =
    let same = IsPeerText-unique peer.0 gateway.peer says.peer peer.1 says.names_peer in
    let given = subst (λ (p : _). is_peer_given gateways p ≡ true) same peer.2 in
    cc (sym may.new.peer ∙ given)
new_is_good gateways before gateway line reason may says fails = fields_are_good gateway line reason says fails

-- no socket call is a line of no field
no_empty_call : (family : Family) (event : GatewayEvent) → is_some (call_in event) ≡ true → SaysEvent (Some family) event [] → ⊥
no_empty_call family (gateway_events.Open name group filter) call says = cc says.parts
no_empty_call family (gateway_events.Change name filter) call says = cc says.parts
no_empty_call family (gateway_events.Close name) call says = cc says.parts
no_empty_call family gateway_events.LeaveAll call says = cc says
no_empty_call family event call says = cc call

pub call_is_said : (family : Family) (event : GatewayEvent) (values : List (List ℕ)) (reason : Reason) → is_some (call_in event) ≡ true → SaysEvent (Some family) event values
    → FailsToCall family values reason → ⊥
call_is_said family event [] reason call says fails = no_empty_call family event call says
call_is_said family event (word ∷ more) reason call says fails = call_is_good family event (word ∷ more) reason says call fails

event_is_good : (given : List Setting) (gateways : List PairGateway) (before : List PairItem) (event : PairEvent) (line : List (List ℕ)) (reason : Reason)
    → SaysEventAfter gateways event line → FailsAfter given gateways before line reason → ⊥
event_is_good given gateways before (events.Moment at) line reason says fails =
    one_fits a_moment says.text (moment_fits at says.text says.names) reason (opened_fails given gateways before openings.Moment (says.text ∷ []) line reason says.parts fails)
event_is_good given gateways before (events.Rotate secret) line reason says fails =
    one_fits a_secret says.text (secret_fits secret says.text says.names) reason (opened_fails given gateways before openings.Secret (says.text ∷ []) line reason says.parts fails)
event_is_good given gateways before (events.Packet bytes) line reason says fails =
    one_fits some_octets says.text (octets_fit bytes says.text says.names) reason (opened_fails given gateways before openings.Packet (says.text ∷ []) line reason says.parts fails)
event_is_good given gateways before (events.Socket name event) line reason says fails =
    call_is_said (family_of says.gateway) event says.values reason says.call says.says
    (named_fails given gateways before name says.gateway says.values line reason says.parts says.free says.given fails)
event_is_good given gateways before (events.Up number) line reason says fails =
    one_fits a_moment says.text (moment_fits number says.text says.names) reason (opened_fails given gateways before openings.Up (says.text ∷ []) line reason says.parts fails)
event_is_good given gateways before (events.Down number) line reason says fails =
    one_fits a_moment says.text (moment_fits number says.text says.names) reason (opened_fails given gateways before openings.Down (says.text ∷ []) line reason says.parts fails)

pub item_is_good : (given : List Setting) (gateways : List PairGateway) (before : List PairItem) (item : PairItem) (line : List (List ℕ)) (reason : Reason)
    → SaysItemAfter gateways item line → FailsAfter given gateways before line reason → ⊥
item_is_good given gateways before (items.Event event) line reason says fails = event_is_good given gateways before event line reason says fails
item_is_good given gateways before items.Show line reason says fails =
    none_fits reason (opened_fails given gateways before openings.Show [] line reason says fails)

pub no_statement : (given : List Setting) (gateways : List PairGateway) (before : List PairItem) (one : PairStatement) (line : List (List ℕ)) (reason : Reason)
    → SaysAfter given gateways before one line → FailsAfter given gateways before line reason → ⊥
no_statement given gateways before (statements.Setting setting) line reason says fails =
    let fit = setting_is_fit setting line says.1 in
    let values = key_word (key_of setting) ∷ fit.values in
    set_is_good given before setting values reason says.0 (subst (SaysSetting setting) fit.parts says.1)
    (opened_fails given gateways before openings.Set values line reason fit.parts fails)
no_statement given gateways before (statements.Gateway gateway) line reason says fails =
    let said = says.1 in
    new_is_good gateways before gateway line reason says.0 said
    (opened_fails given gateways before openings.Gateway (ValuesOf gateway said.peer said.family said.source) line reason said.parts fails)
no_statement given gateways before (statements.Item item) line reason says fails = item_is_good given gateways before item line reason says fails
