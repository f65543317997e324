-- How a line begins that says something. A line that names no gateway is one of a pair's script.
use Rattle.std.proofs.Common.{◌≡◌, ℕ, Bool, List, [], ◌∷◌, Some, refl, sym, subst, ◌∙◌}
use Rattle.amt_script.{specs.{Says.{SaysSetting}, declared.setting.Setting.{Setting}}, proofs.Says.{setting_is_fit}}
use Rattle.gateway_machine.specs.declared.event.GatewayEvent.{GatewayEvent}
use Rattle.amt_pair.specs.declared.event.PairEvent.TheVariants as pair_events
use Rattle.pair_script.{specs.{Opening.{IsItemOpening}, Says.{SaysItemAfter as PairSaysItem}, declared.{opening.Opening.{Opening}, script.PairItem.{PairItem}}}, proofs.{Beginnings.{BeginsAs, IsNamed, IsOpened, item_begins, opening_of_item}, Openings.{one_opening, same_word}}}
use Rattle.pair_script.specs.declared.opening.Opening.TheVariants as openings
use Rattle.pair_script.specs.declared.script.PairItem.TheVariants as pair_items
use Rattle.amt_dual.specs.declared.event.DualPairEvent.TheVariants as events
use Rattle.amt_dual_script.specs.{Says.{SaysCall, SaysGateway, SaysItemAfter}, declared.script.{DualGateway.{DualGateway}, DualItem.{DualItem}}}
use Rattle.amt_dual_script.specs.declared.script.DualItem.TheVariants as items

-- no line begins with two such words, or with one and with a name
pub one_opened : (one other : Opening) (line : List (List ℕ)) → IsOpened one line → IsOpened other line → one ≡ other
one_opened one other line h k = one_opening one other (same_word _ _ h.values k.values (sym h.parts ∙ k.parts))

pub not_named : (opening : Opening) (line : List (List ℕ)) → IsOpened opening line → IsNamed line → ⊥
not_named opening line opened named = named.free opening (same_word _ _ named.values opened.values (sym named.parts ∙ opened.parts))

pub setting_opened : (setting : Setting) (line : List (List ℕ)) → SaysSetting setting line → IsOpened openings.Set line
setting_opened setting line says =
    let fit = setting_is_fit setting line says in
    record { values = _; parts = fit.parts }

pub gateway_opened : (gateway : DualGateway) (line : List (List ℕ)) → SaysGateway gateway line → IsOpened openings.Gateway line
gateway_opened gateway line says = record { values = _; parts = says.parts }

pub call_named : (gateways : List DualGateway) (name : List ℕ) (v6 : Bool) (event : GatewayEvent) (line : List (List ℕ)) → SaysCall gateways name v6 event line → IsNamed line
call_named gateways name v6 event line says = record { name = name; values = says.family ∷ says.values; parts = says.parts; free = says.free }

-- the item of a pair's script that says the same; of a socket call nothing is asked
abbrev pub as_dual : PairItem → DualItem
as_dual (pair_items.Event (pair_events.Moment at)) = items.Event (events.Moment at)
as_dual (pair_items.Event (pair_events.Rotate secret)) = items.Event (events.Rotate secret)
as_dual (pair_items.Event (pair_events.Packet bytes)) = items.Event (events.Packet bytes)
as_dual (pair_items.Event (pair_events.Socket name event)) = items.Show
as_dual (pair_items.Event (pair_events.Up number)) = items.Event (events.Up number)
as_dual (pair_items.Event (pair_events.Down number)) = items.Event (events.Down number)
as_dual pair_items.Show = items.Show

-- after no gateway the line says this item in a pair's script
pub record IsShared (item : DualItem) (line : List (List ℕ)) : Type 0 where
  pub pair : PairItem
  pub item_is : item ≡ as_dual pair
  pub says : PairSaysItem [] pair line
  pub opening : Opening
  pub of_items : IsItemOpening opening
  pub opened : IsOpened opening line

-- a line that says an item is such a line, or a socket call
pub data IsSaid (gateways : List DualGateway) (item : DualItem) (line : List (List ℕ)) : Type 0 where
  shared : IsShared item line → IsSaid gateways item line
  call : (name : List ℕ) (v6 : Bool) (event : GatewayEvent) → item ≡ items.Event (events.Socket name v6 event)
      → SaysCall gateways name v6 event line → IsSaid gateways item line

of_pair : (gateways : List DualGateway) (pair : PairItem) (opening : Opening) (line : List (List ℕ)) → IsItemOpening opening → opening_of_item pair ≡ Some opening
    → PairSaysItem [] pair line → IsSaid gateways (as_dual pair) line
of_pair gateways pair opening line of_items begins says =
    shared (record {
      pair = pair;
      item_is = refl;
      says = says;
      opening = opening;
      of_items = of_items;
      opened = subst (λ (o : _). BeginsAs o line) begins (item_begins [] pair line says);
    })

pub is_said : (gateways : List DualGateway) (item : DualItem) (line : List (List ℕ)) → SaysItemAfter gateways item line → IsSaid gateways item line
is_said gateways (items.Event (events.Moment at)) line says = of_pair gateways (pair_items.Event (pair_events.Moment at)) openings.Moment line tt refl says
is_said gateways (items.Event (events.Rotate secret)) line says = of_pair gateways (pair_items.Event (pair_events.Rotate secret)) openings.Secret line tt refl says
is_said gateways (items.Event (events.Packet bytes)) line says = of_pair gateways (pair_items.Event (pair_events.Packet bytes)) openings.Packet line tt refl says
is_said gateways (items.Event (events.Socket name v6 event)) line says = call name v6 event refl says
is_said gateways (items.Event (events.Up number)) line says = of_pair gateways (pair_items.Event (pair_events.Up number)) openings.Up line tt refl says
is_said gateways (items.Event (events.Down number)) line says = of_pair gateways (pair_items.Event (pair_events.Down number)) openings.Down line tt refl says
is_said gateways items.Show line says = of_pair gateways pair_items.Show openings.Show line tt refl says
