-- How many tasks a spawner has started.
use Rattle.std.specs.Prelude.{◌≡◌, ℕ, Option, Some, None}
use Rattle.amt_ports.specs.Causes.{next_count}

-- where the spawner still tells its starts, there is one more than it told before
abbrev pub HasStarted : Option ℕ → Option ℕ → Type 0
HasStarted before None = Unit {0}
HasStarted before (Some after) = (earlier : ℕ) × (before ≡ Some earlier) × (after ≡ next_count earlier)
