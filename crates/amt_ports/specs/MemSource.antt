-- What a source in memory is seen as.
use Rattle.std.specs.Prelude.{ℕ, List}
use Rattle.amt_ports.specs.Tally.{Tally}

-- the bytes that are left to read, and the calls so far
pub record UnreadBytes : Type 0 where
  pub left : List ℕ
  pub tally : Tally
