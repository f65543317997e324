-- Sets of devices: those to come, and the room for those that come back.
use Rattle.std.specs.Prelude.{◌≡◌, ◌<◌, ℕ, ◌+◌, ◌-◌, Bool, true, false, List, [], ◌∷◌, Option, Some, None}
use Rattle.serving_commands.specs.{Seen.{RelaySeen, is_set_for}, declared.opening.devices.DeviceSet.{DeviceSet, TheVariants.{Relay, Gateway}}}

-- where the sets to come are still told, this one was the first of them, and the others stay
abbrev pub TakesFirst : {X : Type 0} → Option (List X) → Option (List X) → X → Type 0
TakesFirst before None first = Unit {0}
TakesFirst before (Some after) first = before ≡ Some (first ∷ after)

-- a set can be given back: there is room for it, or it needs none
abbrev pub HasRoom : Option ℕ → Type 0
HasRoom None = Unit {0}
HasRoom (Some sets) = 0 < sets

-- room for one set more
abbrev pub more_room : Option ℕ → Option ℕ
more_room None = None
more_room (Some sets) = Some (sets + 1)

-- room for one set less
abbrev pub less_room : Option ℕ → Option ℕ
less_room None = None
less_room (Some sets) = Some (sets - 1)

module _ {R G : Type 0} where
  -- the first set to come is a relay's, by what is seen of one, with links out of this number, and a control socket as asked
  abbrev pub fits_relay : (R → RelaySeen) → ℕ → Bool → List (DeviceSet R G) → Bool
  fits_relay seen slots asked [] = false
  fits_relay seen slots asked (Relay devices ∷ later) = is_set_for slots asked (seen devices)
  fits_relay seen slots asked (Gateway devices ∷ later) = false

  -- the first set to come is a gateway's
  abbrev pub fits_gateway : List (DeviceSet R G) → Bool
  fits_gateway [] = false
  fits_gateway (Relay devices ∷ later) = false
  fits_gateway (Gateway devices ∷ later) = true
