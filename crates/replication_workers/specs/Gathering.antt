-- What is read of what slots left.
use Rattle.std.specs.Prelude.{◌≡◌, ℕ, suc, ◌≤◌, ◌+◌, false, List, [], ◌∷◌, ◌++◌, length, map, vec_capacity}
use Rattle.amt_ports.specs.declared.out_link.OutLink.{Ghosts}
use Rattle.published_table.specs.Views.{room_of, views_of}
use Rattle.replication_workers.specs.{KeptSlots.{AreThreaded, now_of, state_of}, Replicators.{out_of, view_of}, SlotStates.{HaveLeft, jobs_in_all}, declared.{dispatcher.{gathered.Gathered.{Gathered}, kept.Kept.{Kept}}, slot.Left.{Left}}}

module _ {O : Type 0} where
  -- nothing was left yet
  pub record IsFresh (gathered : Gathered O) : Type 0 where
    pub no_out : length gathered.outs.items ≡ 0
    pub no_view : length (views_of gathered.views) ≡ 0
    pub no_job : gathered.jobs ≡ 0
    pub none_sent : gathered.sent ≡ 0
    pub none_unsent : gathered.unsent ≡ 0

  -- there is room for what so many slots more leave
  pub record HasRoom (slots : ℕ) (gathered : Gathered O) : Type 0 where
    pub for_outs : length gathered.outs.items + slots ≤ vec_capacity gathered.outs
    pub for_views : length (views_of gathered.views) + slots ≤ room_of gathered.views

  -- one slot took its room, and no more
  abbrev pub LeavesRoom : Gathered O → Gathered O → Type 0
  LeavesRoom before after = (more : ℕ) → HasRoom (suc more) before → HasRoom more after

  -- what one slot left was added
  pub record HasAdded (left : Left O) (before after : Gathered O) : Type 0 where
    pub outs_are : after.outs.items ≡ before.outs.items ++ left.out ∷ []
    pub views_are : views_of after.views ≡ views_of before.views ++ left.view ∷ []
    pub jobs_are : after.jobs ≡ before.jobs + left.jobs
    pub sent_is : after.sent ≡ before.sent + left.sent
    pub unsent_is : after.unsent ≡ before.unsent + left.unsent

module _ {O T : Type 0} {g : Ghosts O} where
  -- it has what these slots left, in order; without threads their links and views as they are
  pub record HaveEnded (slots : List (Kept O T g)) (gathered : Gathered O) : Type 0 where
    pub left : HaveLeft (map state_of slots) gathered.outs.items (views_of gathered.views) gathered.sent gathered.unsent
    pub jobs : gathered.jobs ≡ jobs_in_all (map state_of slots)
    pub outs : AreThreaded false slots → gathered.outs.items ≡ map out_of (map now_of slots)
    pub views : AreThreaded false slots → views_of gathered.views ≡ map view_of (map now_of slots)
