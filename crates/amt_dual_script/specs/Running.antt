-- Runs over a script of dual gateways, and which scripts they can be run over.
use Rattle.std.specs.{Prelude.{◌≡◌, ℕ, List, [], ◌∷◌, ◌++◌}, List.{AllByRecursion}}
use Rattle.relay_machine.specs.Settings.{AreLawfulSettings}
use Rattle.amt_pair.specs.Setup.{Host}
use Rattle.amt_dual.specs.{Schedule.{DualMayCome, dual_course_of}, Setup.{DualSetup, machines_in}, State.{StandsFor, sent_down, sent_up}, declared.{event.DualPairEvent.{DualPairEvent}, pair.DualPair.{DualPair}}}
use Rattle.amt_dual_script.specs.{Gateways.{IsNew}, Setup.{setup_of}, Texts.{events_in}, declared.script.{DualGateway.{DualGateway}, DualItem.{DualItem, TheVariants.{Event, Show}}, DualScript.{DualScript}}}

-- each gateway can be added after those before it: it has a name and a peer of its own
abbrev pub CanBeAdded : List DualGateway → List DualGateway → Type 0
CanBeAdded before [] = Unit {0}
CanBeAdded before (gateway ∷ rest) = IsNew before gateway × CanBeAdded (before ++ gateway ∷ []) rest

-- the event may come to these machines
abbrev pub IsItem : List Host → DualItem → Type 0
IsItem machines (Event event) = DualMayCome machines event
IsItem machines Show = Unit {0}

-- a relay and gateways may be set up so, and each item may come
pub record IsRunnable (script : DualScript) : Type 0 where
  pub lawful : AreLawfulSettings script.settings
  pub gateways : CanBeAdded [] script.gateways
  pub items : AllByRecursion (IsItem (machines_in (setup_of script)).hosts) script.items

-- from this start the items lead to the pair, and `up` datagrams were sent to the relay and `down` by it
pub record IsPairAfter (pair : DualPair) (up down : ℕ) (start : DualSetup) (items : List DualItem) : Type 0 where
  pub at : StandsFor pair (machines_in start) (dual_course_of start (events_in items))
  pub up_is : up ≡ sent_up pair
  pub down_is : down ≡ sent_down pair

-- a fact of a start and items holds of all those by which the pair may have come to be
abbrev pub AfterItems : DualPair → ℕ → ℕ → (DualSetup → List DualItem → Type 0) → Type 0
AfterItems pair up down Fact = (start : DualSetup) (before : List DualItem) → IsPairAfter pair up down start before → Fact start before

-- some items led to the pair, and the event may come to its machines
pub record CanTake (pair : DualPair) (up down : ℕ) (event : DualPairEvent) : Type 0 where
  pub start : DualSetup
  pub before : List DualItem
  pub stands : IsPairAfter pair up down start before
  pub may : DualMayCome (machines_in start).hosts event
