-- What sets of devices in memory are seen as.
use Rattle.std.specs.Prelude.{ℕ, ◌+◌, ◌-◌, ◌∷◌, ◌++◌, [], Bool, List, Option, Some, None, if◌then◌else◌}
use Rattle.amt_ports.specs.Tally.{Tally}
use Rattle.serving_commands.specs.declared.opening.asked.Opening.{Opening}

-- the openings that were asked for, if none is missing
abbrev pub told_openings : Bool → List Opening → Option (List Opening)
told_openings is_whole openings = if is_whole then Some openings else None

-- the sets that were given back, and for how many more there is room
pub record Returned (X : Type 0) : Type 0 where
  pub sets : List X
  pub room : ℕ

-- with room for one set more
abbrev pub with_room : {X : Type 0} → Returned X → Returned X
with_room returned = record returned { room = returned.room + 1 }

-- with this set, which takes the room of one
abbrev pub with_set : {X : Type 0} → Returned X → X → Returned X
with_set returned set = record returned { sets = returned.sets ++ set ∷ []; room = returned.room - 1 }

-- the sets to come, the openings that were asked for, if none is missing, the sets that were given back,
-- and the calls so far
pub record OpenCalls (X : Type 0) : Type 0 where
  pub sets : List X
  pub asked : Option (List Opening)
  pub returned : Returned X
  pub calls : Tally
