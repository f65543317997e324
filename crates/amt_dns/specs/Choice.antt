-- Which relay of an answer is taken (RFC 8777, sections 3.1 and 4.2.1).
use Rattle.std.specs.Prelude.{◌≡◌, ℕ, ◌<◌, ◌≤◌, nat_lt, List, [], ◌∷◌, ◌++◌, length, All, Option, Some, None, if◌then◌else◌}
use Rattle.amt_dns.specs.declared.found.Found.{Found}

-- the first of the least precedence is this one, at this place: a lower value is preferred, those before have a
-- greater one, and those after it none that is less
pub record IsChosen (found : List Found) (place : ℕ) (chosen : Found) : Type 0 where
  pub before : List Found
  pub after : List Found
  pub parts : found ≡ before ++ chosen ∷ after
  pub counted : place ≡ length before
  pub first : All (λ other. chosen.precedence < other.precedence) before
  pub least : All (λ other. chosen.precedence ≤ other.precedence) after

-- the one of two that is taken, of which the first stands before the other
abbrev pub better_of : Found → Option Found → Found
better_of one None = one
better_of one (Some other) = if nat_lt other.precedence one.precedence then other else one

-- the one that is taken, if there is any
abbrev pub chosen_of : List Found → Option Found
chosen_of [] = None
chosen_of (one ∷ more) = Some (better_of one (chosen_of more))
