-- What a line of a pair's script says.
use Rattle.std.specs.Prelude.{◌≡◌, ℕ, true, is_some, List, [], ◌∷◌, Some}
use Rattle.amt_values.specs.Text.{IsPeerText}
use Rattle.amt_script.specs.Says.{SaysItem as RelaySays}
use Rattle.amt_script.specs.declared.script.RelayItem.TheVariants as relay_items
use Rattle.gateway_machine.specs.{Answers.{call_in}, declared.event.GatewayEvent.{GatewayEvent}}
use Rattle.gateway_script.specs.Says.{SaysEvent}
use Rattle.relay_machine.specs.declared.event.Event.TheVariants as relay_events
use Rattle.script_lines.specs.{Form.{IsAddressText, IsFamilyText, IsMomentText}, Shape.{HasField}}
use Rattle.amt_pair.specs.declared.event.PairEvent.{PairEvent}
use Rattle.amt_pair.specs.declared.event.PairEvent.TheVariants as events
use Rattle.pair_script.specs.{Gateways.{family_of, gateway_named}, Opening.{IsFree, IsGatewayName, opening_word}, declared.script.{PairGateway.{PairGateway}, PairItem.{PairItem}}}
use Rattle.pair_script.specs.declared.opening.Opening.TheVariants as openings
use Rattle.pair_script.specs.declared.script.PairItem.TheVariants as items

-- a line `gateway NAME PEER FAMILY SOURCE` of these fields gives the gateway
pub record SaysGateway (gateway : PairGateway) (line : List (List ℕ)) : Type 0 where
  pub peer : List ℕ
  pub family : List ℕ
  pub source : List ℕ
  pub parts : line ≡ opening_word openings.Gateway ∷ gateway.name ∷ peer ∷ family ∷ source ∷ []
  pub names : IsGatewayName gateway.name
  pub names_peer : IsPeerText gateway.peer peer
  pub names_family : IsFamilyText (family_of gateway) family
  pub names_source : IsAddressText (Some (family_of gateway)) gateway.source source

-- a line of these fields, of which the first is the name of one of these gateways, says that it takes the
-- socket call
pub record SaysCall (gateways : List PairGateway) (name : List ℕ) (event : GatewayEvent) (line : List (List ℕ)) : Type 0 where
  pub gateway : PairGateway
  pub values : List (List ℕ)
  pub parts : line ≡ name ∷ values
  pub free : IsFree name
  pub given : gateway_named gateways name ≡ Some gateway
  pub says : SaysEvent (Some (family_of gateway)) event values
  pub call : is_some (call_in event) ≡ true

-- after these gateways a line of these fields says the event
abbrev pub SaysEventAfter : List PairGateway → PairEvent → List (List ℕ) → Type 0
SaysEventAfter gateways (events.Moment at) line = RelaySays (relay_items.Event (relay_events.Moment at)) line
SaysEventAfter gateways (events.Rotate secret) line = RelaySays (relay_items.Event (relay_events.Rotate secret)) line
SaysEventAfter gateways (events.Packet bytes) line = RelaySays (relay_items.Event (relay_events.Packet bytes)) line
SaysEventAfter gateways (events.Socket name event) line = SaysCall gateways name event line
SaysEventAfter gateways (events.Up number) line = HasField (opening_word openings.Up ∷ []) (IsMomentText number) line
SaysEventAfter gateways (events.Down number) line = HasField (opening_word openings.Down ∷ []) (IsMomentText number) line

-- an event, or the word alone by which the memberships are shown
abbrev pub SaysItemAfter : List PairGateway → PairItem → List (List ℕ) → Type 0
SaysItemAfter gateways (items.Event event) line = SaysEventAfter gateways event line
SaysItemAfter gateways items.Show line = RelaySays relay_items.Show line
