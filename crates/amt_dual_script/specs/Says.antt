-- What a line of a script of dual gateways says. A line that names no gateway says what it says in a pair's script.
use Rattle.std.specs.Prelude.{◌≡◌, ℕ, Bool, true, is_some, List, [], ◌∷◌, Some}
use Rattle.amt_values.specs.{Text.{IsIpText, IsPeerText}, declared.address.Ip.TheVariants.{V4, V6}}
use Rattle.gateway_machine.specs.{Answers.{call_in}, declared.event.GatewayEvent.{GatewayEvent}}
use Rattle.gateway_script.specs.Says.{SaysEvent}
use Rattle.script_lines.specs.Form.{IsFamilyText}
use Rattle.socket_merge.specs.FullReport.{family_by}
use Rattle.amt_pair.specs.declared.event.PairEvent.TheVariants as pair_events
use Rattle.pair_script.specs.{Opening.{IsFree, IsGatewayName, opening_word}, Says.{SaysEventAfter as PairSaysEvent, SaysItemAfter as PairSaysItem}}
use Rattle.pair_script.specs.declared.opening.Opening.TheVariants as openings
use Rattle.pair_script.specs.declared.script.PairItem.TheVariants as pair_items
use Rattle.amt_dual.specs.declared.event.DualPairEvent.{DualPairEvent}
use Rattle.amt_dual.specs.declared.event.DualPairEvent.TheVariants as events
use Rattle.amt_dual_script.specs.{Gateways.{is_name_given}, declared.script.{DualGateway.{DualGateway}, DualItem.{DualItem}}}
use Rattle.amt_dual_script.specs.declared.script.DualItem.TheVariants as items

-- a line `gateway NAME PEER SOURCE4 SOURCE6` of these fields gives the gateway
pub record SaysGateway (gateway : DualGateway) (line : List (List ℕ)) : Type 0 where
  pub peer : List ℕ
  pub source4 : List ℕ
  pub source6 : List ℕ
  pub parts : line ≡ opening_word openings.Gateway ∷ gateway.name ∷ peer ∷ source4 ∷ source6 ∷ []
  pub names : IsGatewayName gateway.name
  pub names_peer : IsPeerText gateway.peer peer
  pub names_source4 : IsIpText (V4 gateway.source4) source4
  pub names_source6 : IsIpText (V6 gateway.source6) source6

-- a line `NAME FAMILY LINE` of these fields says that the machine of the family takes the socket call, of the gateway of the
-- name, which is one of these
pub record SaysCall (gateways : List DualGateway) (name : List ℕ) (v6 : Bool) (event : GatewayEvent) (line : List (List ℕ)) : Type 0 where
  pub family : List ℕ
  pub values : List (List ℕ)
  pub parts : line ≡ name ∷ family ∷ values
  pub free : IsFree name
  pub given : is_name_given gateways name ≡ true
  pub names_family : IsFamilyText (family_by v6) family
  pub says : SaysEvent (Some (family_by v6)) event values
  pub call : is_some (call_in event) ≡ true

-- after these gateways a line of these fields says the event
abbrev pub SaysEventAfter : List DualGateway → DualPairEvent → List (List ℕ) → Type 0
SaysEventAfter gateways (events.Moment at) line = PairSaysEvent [] (pair_events.Moment at) line
SaysEventAfter gateways (events.Rotate secret) line = PairSaysEvent [] (pair_events.Rotate secret) line
SaysEventAfter gateways (events.Packet bytes) line = PairSaysEvent [] (pair_events.Packet bytes) line
SaysEventAfter gateways (events.Socket name v6 event) line = SaysCall gateways name v6 event line
SaysEventAfter gateways (events.Up number) line = PairSaysEvent [] (pair_events.Up number) line
SaysEventAfter gateways (events.Down number) line = PairSaysEvent [] (pair_events.Down number) line

-- an event, or the word alone by which the memberships are shown
abbrev pub SaysItemAfter : List DualGateway → DualItem → List (List ℕ) → Type 0
SaysItemAfter gateways (items.Event event) line = SaysEventAfter gateways event line
SaysItemAfter gateways items.Show line = PairSaysItem [] pair_items.Show line
