-- What a sink in memory is seen as.
use Rattle.std.specs.Prelude.{ℕ, List}
use Rattle.amt_ports.specs.Tally.{Tally}

-- the bytes that were written, and the calls so far
pub record WrittenBytes : Type 0 where
  pub written : List ℕ
  pub tally : Tally
