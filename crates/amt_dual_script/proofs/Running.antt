-- A script that some octets spell can be run.
use Rattle.std.{proofs.{Common.{◌≡◌, ℕ, ◌≤◌, Bool, true, List, [], ◌∷◌, ◌++◌, length, Some, refl, sym, subst, ap, append_assoc, arith}, lemmas.List.Elements.{filter_map-append}}, specs.{List.{AllByRecursion}, Str.Lines.{lines}}}
use Rattle.gateway_machine.specs.declared.event.GatewayEvent.{GatewayEvent}
use Rattle.gateway_script.proofs.Running.{event_by_line, event_of_one_family, few_fields}
use Rattle.relay_machine.specs.declared.settings.Settings.{Settings}
use Rattle.script_lines.{specs.{Lines.{IsShort, fields, lines_that_say}, Script.{Say}}, proofs.Forms.{hex_sized}}
use Rattle.socket_merge.specs.FullReport.{family_by}
use Rattle.pair_script.proofs.{Heard.{none_more}, Running.{short_that_say}}
use Rattle.amt_dual.specs.{Schedule.{DualMayCome}, Setup.{machine_of}, declared.event.DualPairEvent.{DualPairEvent}}
use Rattle.amt_dual.specs.declared.event.DualPairEvent.TheVariants as events
use Rattle.amt_dual_script.specs.{Gateways.{is_name_given}, Running.{CanBeAdded, IsItem, IsRunnable}, Says.{SaysCall, SaysEventAfter, SaysItemAfter}, Script.{IsDualScript, dual_kind, gateway_in, gateways_in, items_in}, Setup.{host_of}}
use Rattle.amt_dual_script.{specs.declared.{script.{DualGateway.{DualGateway}, DualItem.{DualItem}, DualScript.{DualScript}}, statement.DualStatement.{DualStatement}}, proofs.Machines.{given_later, machine_found, machines_by}}
use Rattle.amt_dual_script.specs.declared.script.DualItem.TheVariants as items
use Rattle.amt_dual_script.specs.declared.statement.DualStatement.TheVariants as statements

-- each gateway that lines give can be added
can_be_added : (past said : List DualStatement) (ls : List (List ℕ)) → Say dual_kind past said ls → CanBeAdded (gateways_in past) (gateways_in said)
can_be_added past [] [] each = tt
can_be_added past [] (line ∷ ls) each = tt
can_be_added past (one ∷ said) [] each = absurd each
can_be_added past (statements.Setting setting ∷ said) (line ∷ ls) each =
    subst (λ (before : List DualGateway). CanBeAdded before (gateways_in said)) (sym (none_more gateway_in past (statements.Setting setting) refl))
    (can_be_added (past ++ statements.Setting setting ∷ []) said ls each.2)
can_be_added past (statements.Gateway gateway ∷ said) (line ∷ ls) each = (
  each.1.0.new,
  subst (λ (before : List DualGateway). CanBeAdded before (gateways_in said)) (filter_map-append gateway_in past (statements.Gateway gateway ∷ []))
      (can_be_added (past ++ statements.Gateway gateway ∷ []) said ls each.2),
)
can_be_added past (statements.Item item ∷ said) (line ∷ ls) each =
    subst (λ (before : List DualGateway). CanBeAdded before (gateways_in said)) (sym (none_more gateway_in past (statements.Item item) refl))
    (can_be_added (past ++ statements.Item item ∷ []) said ls each.2)

call_may_come : (settings : Settings) (past said : List DualStatement) (name : List ℕ) (v6 : Bool) (event : GatewayEvent) (line : List (List ℕ)) → length line ≤ 140100
    → SaysCall (gateways_in past) name v6 event line → DualMayCome (machines_by settings (gateways_in (past ++ said))) (events.Socket name v6 event)
call_may_come settings past said name v6 event line few says =
    let given = subst (λ (gateways : List DualGateway). is_name_given gateways name ≡ true) (sym (filter_map-append gateway_in past said))
    (given_later (gateways_in past) (gateways_in said) name says.given) in
    let found = machine_found settings (gateways_in (past ++ said)) name v6 given in
    let machine = machine_of settings v6 (host_of found.gateway) in
    let fewer : length says.values ≤ 140100 = omega (arith, few, ap (λ (ts : List (List ℕ)). length ts) says.parts) in
    let is_event = event_of_one_family machine.settings (family_by v6) event refl (event_by_line (Some (family_by v6)) event says.values fewer says.says) in
    (says.call, (machine, found.among, found.named, refl, is_event))

event_may_come : (settings : Settings) (past said : List DualStatement) (event : DualPairEvent) (line : List (List ℕ)) → length line ≤ 140100
    → SaysEventAfter (gateways_in past) event line → DualMayCome (machines_by settings (gateways_in (past ++ said))) event
event_may_come settings past said (events.Packet bytes) line few says = hex_sized bytes says.text says.names
event_may_come settings past said (events.Socket name v6 event) line few says = call_may_come settings past said name v6 event line few says
event_may_come settings past said event line few says = tt

item_may_come : (settings : Settings) (past said : List DualStatement) (item : DualItem) (line : List (List ℕ)) → length line ≤ 140100
    → SaysItemAfter (gateways_in past) item line → IsItem (machines_by settings (gateways_in (past ++ said))) item
item_may_come settings past said (items.Event event) line few says = event_may_come settings past said event line few says
item_may_come settings past said items.Show line few says = tt

-- all items may come to the machines of all lines
abbrev AllMayCome : Settings → List DualStatement → List DualStatement → Type 0
AllMayCome settings all said = AllByRecursion (IsItem (machines_by settings (gateways_in all))) (items_in said)

items_may_come : (settings : Settings) (past said : List DualStatement) (ls : List (List ℕ)) → AllByRecursion IsShort ls → Say dual_kind past said ls
    → AllMayCome settings (past ++ said) said
items_may_come settings past [] [] short each = tt
items_may_come settings past [] (line ∷ ls) short each = tt
items_may_come settings past (one ∷ said) [] short each = absurd each
items_may_come settings past (statements.Setting setting ∷ said) (line ∷ ls) short each =
    subst (λ (all : List DualStatement). AllMayCome settings all said) (append_assoc past (statements.Setting setting ∷ []) said)
    (items_may_come settings (past ++ statements.Setting setting ∷ []) said ls short.1 each.2)
items_may_come settings past (statements.Gateway gateway ∷ said) (line ∷ ls) short each =
    subst (λ (all : List DualStatement). AllMayCome settings all said) (append_assoc past (statements.Gateway gateway ∷ []) said)
    (items_may_come settings (past ++ statements.Gateway gateway ∷ []) said ls short.1 each.2)
items_may_come settings past (statements.Item item ∷ said) (line ∷ ls) short each = (
  item_may_come settings past (statements.Item item ∷ said) item (fields line) (omega (arith, few_fields line, short.0)) each.1,
  subst (λ (all : List DualStatement). AllMayCome settings all said) (append_assoc past (statements.Item item ∷ []) said)
      (items_may_come settings (past ++ statements.Item item ∷ []) said ls short.1 each.2),
)

pub runs : (script : DualScript) (bytes : List ℕ) → IsDualScript script bytes → IsRunnable script
runs script bytes spelled =
    let said = spelled.said in
    let ls = lines_that_say (lines bytes) in
    let says = spelled.all_lines.says in record {
      lawful = spelled.made.lawful;
      gateways = subst (CanBeAdded []) (sym spelled.made.gateways) (can_be_added [] said ls says);
      items = subst (λ (gateways : List DualGateway). AllByRecursion (IsItem (machines_by script.settings gateways)) script.items) (sym spelled.made.gateways)
          (subst (AllByRecursion (IsItem (machines_by script.settings (gateways_in said)))) (sym spelled.made.items)
          (items_may_come script.settings [] said ls (short_that_say (lines bytes) spelled.all_lines.short) says));
    }
