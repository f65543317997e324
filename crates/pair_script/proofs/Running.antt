-- A script that some octets spell can be run.
use Rattle.std.{proofs.{Common.{ℕ, ◌≤◌, not, List, [], ◌∷◌, ◌++◌, length, map, Some, refl, sym, subst, ap, append_assoc, arith}, lemmas.List.{map-append, Elements.{All-filter, All-from_recursion, Contains-append_left, filter_map-append, recursion_from_All}}}, specs.{List.{AllByRecursion, Contains}, Str.Lines.{lines}}}
use Rattle.gateway_machine.specs.declared.event.GatewayEvent.{GatewayEvent}
use Rattle.gateway_script.proofs.Running.{event_by_line, event_of_one_family, few_fields}
use Rattle.relay_machine.specs.declared.settings.Settings.{Settings}
use Rattle.script_lines.{specs.{Lines.{IsShort, fields, lines_that_say, says_nothing}, Script.{Say}}, proofs.Forms.{hex_sized}}
use Rattle.amt_pair.specs.{Schedule.{MayCome}, Setup.{Host}, declared.event.PairEvent.{PairEvent}}
use Rattle.amt_pair.specs.declared.event.PairEvent.TheVariants as events
use Rattle.pair_script.specs.{Gateways.{family_of}, Running.{CanBeAdded, IsItem, IsRunnable}, Says.{SaysCall, SaysEventAfter, SaysItemAfter}, Script.{IsPairScript, gateway_in, gateways_in, items_in, pair_kind}, Setup.{host_of}}
use Rattle.pair_script.{specs.declared.{script.{PairGateway.{PairGateway}, PairItem.{PairItem}, PairScript.{PairScript}}, statement.PairStatement.{PairStatement}}, proofs.{Found.{found_among, found_has_name}, Heard.{none_more}}}
use Rattle.pair_script.specs.declared.script.PairItem.TheVariants as items
use Rattle.pair_script.specs.declared.statement.PairStatement.TheVariants as statements

-- each gateway that lines give can be added
can_be_added : (past said : List PairStatement) (ls : List (List ℕ)) → Say pair_kind past said ls → CanBeAdded (gateways_in past) (gateways_in said)
can_be_added past [] [] each = tt
can_be_added past [] (line ∷ ls) each = tt
can_be_added past (one ∷ said) [] each = absurd each
can_be_added past (statements.Setting setting ∷ said) (line ∷ ls) each =
    subst (λ (before : List PairGateway). CanBeAdded before (gateways_in said)) (sym (none_more gateway_in past (statements.Setting setting) refl))
    (can_be_added (past ++ statements.Setting setting ∷ []) said ls each.2)
can_be_added past (statements.Gateway gateway ∷ said) (line ∷ ls) each = (
  each.1.0.new,
  each.1.1.names_source.1,
  subst (λ (before : List PairGateway). CanBeAdded before (gateways_in said)) (filter_map-append gateway_in past (statements.Gateway gateway ∷ []))
      (can_be_added (past ++ statements.Gateway gateway ∷ []) said ls each.2),
)
can_be_added past (statements.Item item ∷ said) (line ∷ ls) each =
    subst (λ (before : List PairGateway). CanBeAdded before (gateways_in said)) (sym (none_more gateway_in past (statements.Item item) refl))
    (can_be_added (past ++ statements.Item item ∷ []) said ls each.2)

-- the hosts of all that lines give
abbrev hosts_in : Settings → List PairStatement → List Host
hosts_in settings said = map (host_of settings) (gateways_in said)

among_all : (settings : Settings) (past said : List PairStatement) (host : Host) → Contains (hosts_in settings past) host → Contains (hosts_in settings (past ++ said)) host
among_all settings past said host among =
    subst (λ (gateways : List PairGateway). Contains (map (host_of settings) gateways) host) (sym (filter_map-append gateway_in past said))
    (subst (λ (hosts : List Host). Contains hosts host) (sym (map-append (host_of settings) (gateways_in past) (gateways_in said)))
    (Contains-append_left (hosts_in settings past) (hosts_in settings said) host among))

call_may_come : (settings : Settings) (past said : List PairStatement) (name : List ℕ) (event : GatewayEvent) (line : List (List ℕ)) → length line ≤ 140100
    → SaysCall (gateways_in past) name event line → MayCome (hosts_in settings (past ++ said)) (events.Socket name event)
call_may_come settings past said name event line few says =
    let gateway = says.gateway in
    let host = host_of settings gateway in
    let fewer : length says.values ≤ 140100 = omega (arith, few, ap (λ (ts : List (List ℕ)). length ts) says.parts) in (
      says.call,
      host,
      among_all settings past said host (found_among settings (gateways_in past) name gateway says.given),
      found_has_name (gateways_in past) name gateway says.given,
      event_of_one_family host.settings (family_of gateway) event refl (event_by_line (Some (family_of gateway)) event says.values fewer says.says),
    )

event_may_come : (settings : Settings) (past said : List PairStatement) (event : PairEvent) (line : List (List ℕ)) → length line ≤ 140100
    → SaysEventAfter (gateways_in past) event line → MayCome (hosts_in settings (past ++ said)) event
event_may_come settings past said (events.Packet bytes) line few says = hex_sized bytes says.text says.names
event_may_come settings past said (events.Socket name event) line few says = call_may_come settings past said name event line few says
event_may_come settings past said event line few says = tt

item_may_come : (settings : Settings) (past said : List PairStatement) (item : PairItem) (line : List (List ℕ)) → length line ≤ 140100
    → SaysItemAfter (gateways_in past) item line → IsItem (hosts_in settings (past ++ said)) item
item_may_come settings past said (items.Event event) line few says = event_may_come settings past said event line few says
item_may_come settings past said items.Show line few says = tt

-- all items may come to the gateways of all lines
abbrev AllMayCome : Settings → List PairStatement → List PairStatement → Type 0
AllMayCome settings all said = AllByRecursion (IsItem (hosts_in settings all)) (items_in said)

items_may_come : (settings : Settings) (past said : List PairStatement) (ls : List (List ℕ)) → AllByRecursion IsShort ls → Say pair_kind past said ls
    → AllMayCome settings (past ++ said) said
items_may_come settings past [] [] short each = tt
items_may_come settings past [] (line ∷ ls) short each = tt
items_may_come settings past (one ∷ said) [] short each = absurd each
items_may_come settings past (statements.Setting setting ∷ said) (line ∷ ls) short each =
    subst (λ (all : List PairStatement). AllMayCome settings all said) (append_assoc past (statements.Setting setting ∷ []) said)
    (items_may_come settings (past ++ statements.Setting setting ∷ []) said ls short.1 each.2)
items_may_come settings past (statements.Gateway gateway ∷ said) (line ∷ ls) short each =
    subst (λ (all : List PairStatement). AllMayCome settings all said) (append_assoc past (statements.Gateway gateway ∷ []) said)
    (items_may_come settings (past ++ statements.Gateway gateway ∷ []) said ls short.1 each.2)
items_may_come settings past (statements.Item item ∷ said) (line ∷ ls) short each = (
  item_may_come settings past (statements.Item item ∷ said) item (fields line) (omega (arith, few_fields line, short.0)) each.1,
  subst (λ (all : List PairStatement). AllMayCome settings all said) (append_assoc past (statements.Item item ∷ []) said)
      (items_may_come settings (past ++ statements.Item item ∷ []) said ls short.1 each.2),
)

pub short_that_say : (ls : List (List ℕ)) → AllByRecursion IsShort ls → AllByRecursion IsShort (lines_that_say ls)
short_that_say ls short =
    recursion_from_All IsShort (lines_that_say ls)
    (All-filter (λ line. not (says_nothing (fields line))) IsShort ls (All-from_recursion IsShort ls short))

pub runs : (script : PairScript) (bytes : List ℕ) → IsPairScript script bytes → IsRunnable script
runs script bytes spelled =
    let said = spelled.said in
    let ls = lines_that_say (lines bytes) in
    let says = spelled.all_lines.says in record {
      lawful = spelled.made.lawful;
      gateways = subst (CanBeAdded []) (sym spelled.made.gateways) (can_be_added [] said ls says);
      items = subst (λ (gateways : List PairGateway). AllByRecursion (IsItem (map (host_of script.settings) gateways)) script.items) (sym spelled.made.gateways)
          (subst (AllByRecursion (IsItem (hosts_in script.settings said))) (sym spelled.made.items)
          (items_may_come script.settings [] said ls (short_that_say (lines bytes) spelled.all_lines.short) says));
    }
