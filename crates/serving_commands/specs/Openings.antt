-- How devices are opened for a run, and given back.
use Rattle.std.specs.Prelude.{◌≡◌, ℕ, List, Option, IsSome}
use Rattle.serving_commands.specs.{Sets.{TakesFirst}, declared.{opening.{asked.Opening.{Opening}, devices.DeviceSet.{DeviceSet}, live.Live.{Ghosts as LiveTells}}, fault.ServingFault.{ServingFault, TheVariants.{Memory, NotOpened, NotRead, Settings, TooLong}}}, Kinds.{SettingsKind}, Reading.{IsConfigured}}
use Rattle.amt_ports.specs.Told.{Appends}

module _ {V R G : Type 0} (live : LiveTells V R G) where
  -- Devices were asked for once: this set, which was the first to come. It was given back as it is left.
  pub record IsLent (opening : Opening) (opened left : DeviceSet R G) (before after : V) : Type 0 where
    pub asked : Appends (live.asked before) (live.asked after) opening
    pub first : TakesFirst (live.sets before) (live.sets after) opened
    pub returned : Appends (live.returned before) (live.returned after) left
    -- what the place told it tells still, and it has as much room as before
    pub tells_asked : IsSome (live.asked before) → IsSome (live.asked after)
    pub tells_returned : IsSome (live.returned before) → IsSome (live.returned after)
    pub room : live.room after ≡ live.room before

  -- devices were asked for once; none were handed out or given back
  pub record IsRefused (opening : Opening) (before after : V) : Type 0 where
    pub asked : Appends (live.asked before) (live.asked after) opening
    pub sets : live.sets after ≡ live.sets before
    pub returned : live.returned after ≡ live.returned before
    pub room : live.room after ≡ live.room before

  -- those that the settings of the file ask for
  pub record IsRefusedFor {S : Type 0} (kind : SettingsKind S) (opening_by : S → Opening) (content : Option (List ℕ)) (before after : V) : Type 0 where
    pub config : S
    pub configured : IsConfigured kind content config
    pub refused : IsRefused (opening_by config) before after

-- a fault that is found before devices are asked for
abbrev pub ComesFirst : ServingFault → Type 0
ComesFirst NotRead = Unit {0}
ComesFirst TooLong = Unit {0}
ComesFirst (Settings fault) = Unit {0}
ComesFirst NotOpened = ⊥
ComesFirst Memory = ⊥
