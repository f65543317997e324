-- How a relay is run by its settings file and by what its command says.
use Rattle.std.specs.Prelude.{ℕ, ◌≤◌, ◌*◌, Option, IfSome, unwrap_or}
use Rattle.amt_config.specs.declared.config.RelayConfig.{RelayConfig}
use Rattle.relay_serving.specs.declared.plan.ServePlan.{ServePlan}

-- so many turns a command may ask for
abbrev pub AreTurns : ℕ → Type 0
AreTurns turns = (1 ≤ turns) × (turns ≤ 1099511627776)

-- a number of workers, where the command gives one, is 64 at most
abbrev pub AreWorkers : Option ℕ → Type 0
AreWorkers workers = IfSome workers (λ number. number ≤ 64)

-- the workers that the command gives win over those of the file, of which the secret's seconds are taken
abbrev pub plan_by : RelayConfig → ℕ → Option ℕ → ServePlan
plan_by config turns workers =
    record { turns = turns; workers = unwrap_or workers config.workers; rotate_ms = config.rotate_seconds * 1000 }
