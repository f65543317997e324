-- The history of a published log, as a book whose log has each log whole that was to be published.
use Rattle.std.specs.{Prelude.{◌≡◌, ℕ, ◌≤◌, ◌==◌, true, List, [], ◌∷◌, ◌++◌, length, map, MatchBool}, List.{All}}
use Rattle.logbook.specs.Pages.{Book, Cell, Named, Step, View}
use Rattle.endpoint_membership.specs.declared.change.Change.{Change}
use Rattle.published_table.specs.{Lists.{BeginsWith, BeginsWithEach}, Logs.{entries}, declared.past.Past.{Past}}

-- The first word is how many logs were to be published; a book has two words, of which this one leaves the
-- second at 0. Some log begins with each of them.
pub record IsKept (cells : List Cell) (logs : List Past) : Type 0 where
  pub words : cells ≡ (length logs, true) ∷ (0, true) ∷ []
  pub longest : List Change
  pub begins : BeginsWithEach longest (map entries logs)

-- the word of a book in which the number stands
abbrev pub head_of : Book → Named
head_of book = record { tracked = true; key = 0; book = book }

-- where the number was the one that was expected, the log was added
abbrev pub Adds : Step Past → View Past ℕ → ℕ → View Past ℕ → Type 0
Adds step before found after = MatchBool (found == step.old) (after.0 ≡ before.0 ++ step.ask ∷ []) (Unit {0})

-- Whatever begins with each log of the history begins with this one. It stays so for a longer history,
-- and for a prefix of the log.
abbrev pub IsUnder : List Past → List Change → Type 0
IsUnder logs log = (longest : List Change) → BeginsWithEach longest (map entries logs) → BeginsWith longest log

-- so with each of these, of which none is longer than the number
abbrev pub AreUnder : List Past → ℕ → List (List Change) → Type 0
AreUnder logs most others = All (λ log. IsUnder logs log × (length log ≤ most)) others
