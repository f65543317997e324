-- What a spawner with listed refusals is seen as.
use Rattle.std.specs.Prelude.{ℕ}
use Rattle.amt_ports.specs.Tally.{Tally}

-- how many tasks it has started, and the calls so far
pub record StartCalls : Type 0 where
  pub starts : ℕ
  pub tally : Tally
