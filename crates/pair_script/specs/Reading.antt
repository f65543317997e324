-- What the reader's own answers say.
use Rattle.std.specs.{Prelude.{◌≡◌, ℕ, List, []}, List.{AllByRecursion}}
use Rattle.amt_script.specs.{Reading.{IsAllowed}, declared.{script.RelayItem.{RelayItem}, setting.Setting.{Setting}}}
use Rattle.amt_script.specs.declared.script.RelayItem.TheVariants as relay_items
use Rattle.amt_pair.specs.declared.event.PairEvent.TheVariants as events
use Rattle.relay_machine.specs.declared.event.Event.{Event, TheVariants.{Datagram, Limits, Moment, Packet, Rotate}}
use Rattle.script_lines.specs.{Form.{IsMomentText}, Shape.{HasField}}
use Rattle.pair_script.specs.{Script.{gateways_in, items_in, settings_in}, declared.{script.{PairGateway.{PairGateway}, PairItem.{PairItem}}, statement.PairStatement.{PairStatement}}}
use Rattle.pair_script.specs.declared.script.PairItem.TheVariants as items

-- these are the settings, gateways and items among the statements
pub record AreThose (given : List Setting) (gateways : List PairGateway) (items : List PairItem) (said : List PairStatement) : Type 0 where
  pub settings_are : given ≡ settings_in said
  pub gateways_are : gateways ≡ gateways_in said
  pub items_are : items ≡ items_in said
  pub allowed : AllByRecursion IsAllowed given

-- scripts of a pair have the event too: it is no datagram that comes to a relay, and no new limits
abbrev pub IsSharedEvent : Event → Type 0
IsSharedEvent (Moment at) = Unit {0}
IsSharedEvent (Datagram bytes from) = ⊥
IsSharedEvent (Packet bytes) = Unit {0}
IsSharedEvent (Rotate secret) = Unit {0}
IsSharedEvent (Limits limits) = ⊥

-- and the item
abbrev pub IsSharedItem : RelayItem → Type 0
IsSharedItem (relay_items.Event event) = IsSharedEvent event
IsSharedItem relay_items.Show = Unit {0}

-- the item is no socket call
abbrev pub NamesNoGateway : PairItem → Type 0
NamesNoGateway (items.Event (events.Socket name event)) = ⊥
NamesNoGateway item = Unit {0}

-- the fields are one, and its text is that of the number
abbrev pub IsNumberOf : List (List ℕ) → ℕ → Type 0
IsNumberOf values number = HasField [] (IsMomentText number) values
