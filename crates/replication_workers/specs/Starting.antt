-- What a start of several workers does.
use Rattle.std.specs.Prelude.{◌≡◌, ℕ, zero, suc, List, ◌∷◌, ◌++◌, length, map, Option, Some, None}
use Rattle.amt_ports.specs.{Causes.{next_count}, declared.out_link.OutLink.{Ghosts}}
use Rattle.published_table.specs.{Views.{views_of}, declared.view.View.{View}}
use Rattle.replication_workers.specs.{Backs.{AreBack}, KeptSlots.{AreStarted, state_of}, SlotStates.{new_slot}, declared.{dispatcher.{StartFault.{StartFault, TheVariants.{Memory, Failed}}, kept.Kept.{Kept}}, replicator.Replicator.{Replicator}, worker.Worker.{Worker}}}

-- so many more, but for the last value of a counter, which stays
abbrev pub count_on : ℕ → ℕ → ℕ
count_on zero before = before
count_on (suc more) before = next_count (count_on more before)

-- where the spawner still tells its starts, there are so many more than it told before
abbrev pub HaveStarted : ℕ → Option ℕ → Option ℕ → Type 0
HaveStarted number before None = Unit {0}
HaveStarted number before (Some after) = (earlier : ℕ) × (before ≡ Some earlier) × (after ≡ count_on number earlier)

module _ {O T : Type 0} {g : Ghosts O} where
  -- Of these replicators, one was refused its start. Workers over those before it were started, each by one
  -- start that was told, and those after it are left.
  pub record HasRefusedOne (task_of : T → Worker O g) (all left : List (Replicator O g)) (slots : List (Kept O T g)) (before after : Option ℕ) : Type 0 where
    pub earlier : List (Replicator O g)
    pub refused : Replicator O g
    pub all_are : all ≡ earlier ++ refused ∷ left
    pub started : AreStarted task_of earlier slots
    pub counted : HaveStarted (length earlier) before after

module _ {O : Type 0} {g : Ghosts O} where
  -- Of these replicators, one was refused its start: as many starts were told before it as there are
  -- replicators before it. The links and the views of all others came back.
  pub record AllButOneBack (given : List (Replicator O g)) (before after : Option ℕ) (outs : List O) (views : List View) : Type 0 where
    pub earlier : List (Replicator O g)
    pub refused : Replicator O g
    pub later : List (Replicator O g)
    pub given_are : given ≡ earlier ++ refused ∷ later
    pub started : HaveStarted (length earlier) before after
    pub back : AreBack (earlier ++ later) outs views

module _ {O T : Type 0} {g : Ghosts O} where
  -- whichever replicators these slots were started with, their links and views came back, and then those of the others
  abbrev pub GivesBack : List (Kept O T g) → List (Replicator O g) → List O → List View → Type 0
  GivesBack slots others outs views = (given : List (Replicator O g)) → map state_of slots ≡ map new_slot given → AreBack (given ++ others) outs views

module _ {O : Type 0} {g : Ghosts O} where
  -- a fact of the replicators that come back without memory
  abbrev pub OnMemory : StartFault O g → (List (Replicator O g) → Type 0) → Type 0
  OnMemory (Memory back) fact = fact back
  OnMemory (Failed outs views) fact = Unit {0}

  -- a fact of the links and views that come back after a start that failed
  abbrev pub OnFailed : StartFault O g → (List O → List View → Type 0) → Type 0
  OnFailed (Memory back) fact = Unit {0}
  OnFailed (Failed outs views) fact = fact outs (views_of views)
