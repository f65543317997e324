-- Runs of a pair over a script, and which scripts it can be run over.
use Rattle.std.specs.{Prelude.{◌≡◌, ℕ, true, List, [], ◌∷◌, ◌++◌}, List.{AllByRecursion}}
use Rattle.group_records.specs.Written.{is_of_family}
use Rattle.relay_machine.specs.Settings.{AreLawfulSettings}
use Rattle.amt_pair.specs.{Schedule.{MayCome, course_of}, Setup.{Host, PairSetup}, State.{StandsFor, sent_down, sent_up}, declared.{event.PairEvent.{PairEvent}, pair.Pair.{Pair}}}
use Rattle.pair_script.specs.{Gateways.{IsNew, family_of}, Texts.{events_in}, Setup.{setup_of}, declared.script.{PairGateway.{PairGateway}, PairItem.{PairItem, TheVariants.{Event, Show}}, PairScript.{PairScript}}}

-- each gateway can be added after those before it: it has a name and a peer of its own, and its reports go
-- out from an address of its family
abbrev pub CanBeAdded : List PairGateway → List PairGateway → Type 0
CanBeAdded before [] = Unit {0}
CanBeAdded before (gateway ∷ rest) =
    IsNew before gateway × (is_of_family (family_of gateway) gateway.source ≡ true) × CanBeAdded (before ++ gateway ∷ []) rest

-- the event may come to these gateways
abbrev pub IsItem : List Host → PairItem → Type 0
IsItem hosts (Event event) = MayCome hosts event
IsItem hosts Show = Unit {0}

-- a pair may be set up so, and each item may come
pub record IsRunnable (script : PairScript) : Type 0 where
  pub lawful : AreLawfulSettings script.settings
  pub gateways : CanBeAdded [] script.gateways
  pub items : AllByRecursion (IsItem (setup_of script).hosts) script.items

-- from this start the items lead to the pair, and so many datagrams were sent to the relay and by it
pub record IsPairAfter (pair : Pair) (up down : ℕ) (start : PairSetup) (items : List PairItem) : Type 0 where
  pub at : StandsFor pair start (course_of start (events_in items))
  pub up_is : up ≡ sent_up pair
  pub down_is : down ≡ sent_down pair

-- a fact of a start and items holds of all those by which the pair may have come to be
abbrev pub AfterItems : Pair → ℕ → ℕ → (PairSetup → List PairItem → Type 0) → Type 0
AfterItems pair up down Fact = (start : PairSetup) (before : List PairItem) → IsPairAfter pair up down start before → Fact start before

-- some items led to the pair, and the event may come to its gateways
pub record CanTake (pair : Pair) (up down : ℕ) (event : PairEvent) : Type 0 where
  pub start : PairSetup
  pub before : List PairItem
  pub stands : IsPairAfter pair up down start before
  pub may : MayCome start.hosts event
