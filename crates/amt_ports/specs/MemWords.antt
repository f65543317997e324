-- What random words in memory are seen as.
use Rattle.std.specs.Prelude.{ℕ, List, Option}
use Rattle.amt_ports.specs.Tally.{Tally}

-- the words to come, those that were given, and the calls so far
pub record WordCalls : Type 0 where
  pub coming : List ℕ
  pub given : Option (List ℕ)
  pub tally : Tally

-- the words to come, and those that were given
pub record ListedWords : Type 0 where
  pub coming : List ℕ
  pub given : Option (List ℕ)
