-- Values that are given one after the other: those of a list, and then one of them without end.
use Rattle.std.specs.Prelude.{ℕ, ◌^◌, ◌-◌, ◌==◌, zero, suc, length, slice_index_or, List, [], ◌∷◌, Option, Some, None, if◌then◌else◌}

-- the first values of the list, which goes on with this one without end
abbrev pub first_of : {X : Type 0} → ℕ → List X → X → List X
first_of zero values last = []
first_of (suc n) [] last = last ∷ first_of n [] last
first_of (suc n) (value ∷ values) last = value ∷ first_of n values last

-- the values given so far, while their number is below the last value of a counter
abbrev pub given_of : {X : Type 0} → ℕ → List X → X → Option (List X)
given_of count values last = if count == 2 ^ 64 - 1 then None else Some (first_of count values last)

-- the first value, or this one
abbrev pub head_or : {X : Type 0} → X → List X → X
head_or other [] = other
head_or other (value ∷ values) = value

-- the last value, or this one
abbrev pub last_or : {X : Type 0} → X → List X → X
last_or other values = slice_index_or values (length values - 1) other

-- the values to come, the one that comes without end after them, and those that were given
pub record Script (X : Type 0) : Type 0 where
  pub coming : List X
  pub last : X
  pub given : Option (List X)
