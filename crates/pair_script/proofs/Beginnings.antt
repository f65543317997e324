-- How a line begins that says something.
use Rattle.std.proofs.Common.{◌≡◌, ℕ, List, [], ◌∷◌, Option, Some, None, refl, sym, ap, ◌∙◌}
use Rattle.amt_script.{specs.declared.setting.Setting.{Setting}, proofs.Says.{setting_is_fit}}
use Rattle.amt_pair.specs.declared.event.PairEvent.{PairEvent}
use Rattle.amt_pair.specs.declared.event.PairEvent.TheVariants as events
use Rattle.pair_script.{specs.{Opening.{IsFree, opening_word}, Says.{SaysEventAfter, SaysItemAfter}, Script.{SaysAfter}, declared.{opening.Opening.{Opening}, script.{PairGateway.{PairGateway}, PairItem.{PairItem}}, statement.PairStatement.{PairStatement}}}, proofs.Openings.{one_opening, same_word}}
use Rattle.pair_script.specs.declared.opening.Opening.TheVariants as openings
use Rattle.pair_script.specs.declared.script.PairItem.TheVariants as items
use Rattle.pair_script.specs.declared.statement.PairStatement.TheVariants as statements

-- the line begins with this word, or with one that begins no line
pub record IsOpened (opening : Opening) (line : List (List ℕ)) : Type 0 where
  pub values : List (List ℕ)
  pub parts : line ≡ opening_word opening ∷ values

pub record IsNamed (line : List (List ℕ)) : Type 0 where
  pub name : List ℕ
  pub values : List (List ℕ)
  pub parts : line ≡ name ∷ values
  pub free : IsFree name

abbrev pub BeginsAs : Option Opening → List (List ℕ) → Type 0
BeginsAs (Some opening) line = IsOpened opening line
BeginsAs None line = IsNamed line

pub same_beginning : (one other : Option Opening) (line : List (List ℕ)) → BeginsAs one line → BeginsAs other line → one ≡ other
same_beginning (Some one) (Some other) line h k =
    ap (λ (opening : Opening). Some opening) (one_opening one other (same_word _ _ h.values k.values (sym h.parts ∙ k.parts)))
same_beginning (Some one) None line h k = absurd (k.free one (same_word _ _ k.values h.values (sym k.parts ∙ h.parts)))
same_beginning None (Some other) line h k = absurd (h.free other (same_word _ _ h.values k.values (sym h.parts ∙ k.parts)))
same_beginning None None line h k = refl

-- the first word of a line that says the event, unless it is a gateway's name
abbrev pub opening_of_event : PairEvent → Option Opening
opening_of_event (events.Moment at) = Some openings.Moment
opening_of_event (events.Rotate secret) = Some openings.Secret
opening_of_event (events.Packet bytes) = Some openings.Packet
opening_of_event (events.Socket name event) = None
opening_of_event (events.Up number) = Some openings.Up
opening_of_event (events.Down number) = Some openings.Down

abbrev pub opening_of_item : PairItem → Option Opening
opening_of_item (items.Event event) = opening_of_event event
opening_of_item items.Show = Some openings.Show

abbrev pub opening_of_statement : PairStatement → Option Opening
opening_of_statement (statements.Setting setting) = Some openings.Set
opening_of_statement (statements.Gateway gateway) = Some openings.Gateway
opening_of_statement (statements.Item item) = opening_of_item item

pub event_begins : (gateways : List PairGateway) (event : PairEvent) (line : List (List ℕ)) → SaysEventAfter gateways event line → BeginsAs (opening_of_event event) line
event_begins gateways (events.Moment at) line says = record { values = says.text ∷ []; parts = says.parts }
event_begins gateways (events.Rotate secret) line says = record { values = says.text ∷ []; parts = says.parts }
event_begins gateways (events.Packet bytes) line says = record { values = says.text ∷ []; parts = says.parts }
event_begins gateways (events.Socket name event) line says = record { name = name; values = says.values; parts = says.parts; free = says.free }
event_begins gateways (events.Up number) line says = record { values = says.text ∷ []; parts = says.parts }
event_begins gateways (events.Down number) line says = record { values = says.text ∷ []; parts = says.parts }

pub item_begins : (gateways : List PairGateway) (item : PairItem) (line : List (List ℕ)) → SaysItemAfter gateways item line → BeginsAs (opening_of_item item) line
item_begins gateways (items.Event event) line says = event_begins gateways event line says
item_begins gateways items.Show line says = record { values = []; parts = says }

pub statement_begins : (given : List Setting) (gateways : List PairGateway) (items : List PairItem) (statement : PairStatement) (line : List (List ℕ))
    → SaysAfter given gateways items statement line → BeginsAs (opening_of_statement statement) line
statement_begins given gateways items (statements.Setting setting) line says =
    let fit = setting_is_fit setting line says.1 in
    record { values = _; parts = fit.parts }
statement_begins given gateways items (statements.Gateway gateway) line says = record { values = _; parts = says.1.parts }
statement_begins given gateways items (statements.Item item) line says = item_begins gateways item line says
