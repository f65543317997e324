-- Conditions that are tried in order, and the first that holds.
use Rattle.std.specs.Prelude.{◌≡◌, ◌⊎◌, Bool, false, List, [], ◌∷◌, Option, Some, None, Result, Ok, Err, if◌then◌else◌}

-- conditions in the order in which they are tried, each with the cause that it tells
abbrev pub Conditions : Type 0 → Type 0
Conditions Cause = List (Bool × Cause)

-- the cause of the first condition that holds
abbrev pub first_holding : {Cause : Type 0} → Conditions Cause → Option Cause
first_holding [] = None
first_holding (condition ∷ rest) = if condition.0 then Some condition.1 else first_holding rest

-- no condition holds
abbrev pub NoneHolds : {Cause : Type 0} → Conditions Cause → Type 0
NoneHolds [] = Unit {0}
NoneHolds (condition ∷ rest) = (condition.0 ≡ false) × NoneHolds rest

-- the first cause, or the second where there is none
abbrev pub first_of : {Cause : Type 0} → Option Cause → Option Cause → Option Cause
first_of None later = later
first_of (Some cause) later = Some cause

-- the value, unless there is a cause against it
abbrev pub unless : {Cause A : Type 0} → Option Cause → A → Result A Cause
unless None value = Ok value
unless (Some cause) value = Err cause

-- where no test decides what a cause says: it is the first of these causes that holds
abbrev pub First : {Cause : Type 0} → (Cause → Type 0) → List Cause → Cause → Type 0
First Holds [] cause = ⊥
First Holds (next ∷ more) cause = (Holds next × (cause ≡ next)) ⊎ ((Holds next → ⊥) × First Holds more cause)
