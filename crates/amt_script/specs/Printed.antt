-- That a printed event is read back.
use Rattle.std.specs.{Prelude.{◌≡◌, ◌≤◌, List, [], ◌∷◌, ℕ, length}, Str.Lines.{lines}}
use Rattle.relay_machine.specs.declared.event.Event.{Event}
use Rattle.relay_machine.specs.declared.event.Event.TheVariants as events
use Rattle.script_lines.specs.Lines.{IsShort}
use Rattle.amt_script.specs.Says.{IsItemLine}
use Rattle.amt_script.specs.declared.script.RelayItem.TheVariants as items

-- a line can say the event: a payload has at most 65,535 octets, and no limit is 0
abbrev pub HasLine : Event → Type 0
HasLine (events.Datagram bytes from) = length bytes ≤ 65535
HasLine (events.Packet bytes) = length bytes ≤ 65535
HasLine (events.Limits limits) = (1 ≤ limits.endpoints) × (1 ≤ limits.groups) × (1 ≤ limits.sources)
HasLine other = Unit {0}

-- the line says the event, and isn't too long
pub record IsLineThatSays (event : Event) (line : List ℕ) : Type 0 where
  pub short : IsShort line
  pub says : IsItemLine (items.Event event) line

-- the text is one line, which says the event
pub record IsLineOf (event : Event) (text : List ℕ) : Type 0 where
  pub line : List ℕ
  pub only : lines text ≡ line ∷ []
  pub says : IsLineThatSays event line
