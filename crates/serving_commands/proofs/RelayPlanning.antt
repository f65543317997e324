-- The plan of a settings file and a command is lawful.
use Rattle.std.proofs.Common.{ℕ, ◌≤◌, List, codes, Option, None, Some, unwrap_or, inl, inr, subst, sym, arith}
use Rattle.toml.specs.Data.{Members}
use Rattle.relay_machine.specs.{Settings.{AreLawfulSettings}, declared.number_key.NumberRange.{NumberRange}}
use Rattle.relay_serving.specs.Plans.{IsLawfulPlan}
use Rattle.amt_config.specs.{Key.{HasWholeNumber}, Relay.{rotate_range, settings_of, workers_range}, declared.config.RelayConfig.{RelayConfig}}
use Rattle.serving_commands.specs.{RelayPlans.{AreTurns, AreWorkers, plan_by}, Kinds.{relay_file}, Reading.{IsConfigured}}

-- a number of a file is in the range of its key, as its default is
in_range : (word : List ℕ) (range : NumberRange) (table : Members) (number : ℕ) → HasWholeNumber word range table number
    → range.least ≤ range.default → range.default ≤ range.most → (range.least ≤ number) × (number ≤ range.most)
in_range word range table number (inl default) low high = (subst (λ (n : ℕ). range.least ≤ n) (sym default.1) low, subst (λ (n : ℕ). n ≤ range.most) (sym default.1) high)
in_range word range table number (inr given) low high = given.1

pub lawful_settings : (content : Option (List ℕ)) (config : RelayConfig) → IsConfigured relay_file content config → AreLawfulSettings (settings_of config)
lawful_settings content config configured = configured.file.2.lawful

few_workers : (config : RelayConfig) (workers : Option ℕ) → config.workers ≤ 64 → AreWorkers workers → unwrap_or workers config.workers ≤ 64
few_workers config None most given = most
few_workers config (Some number) most given = given

pub lawful_plan : (content : Option (List ℕ)) (config : RelayConfig) (turns : ℕ) (workers : Option ℕ) → IsConfigured relay_file content config → AreTurns turns → AreWorkers workers
    → IsLawfulPlan (plan_by config turns workers)
lawful_plan content config turns workers configured some given =
    let values = configured.file.2.values in
    let rotate = in_range (codes "rotate_seconds") rotate_range configured.file.0 config.rotate_seconds values.rotate (omega arith) (omega arith) in
    let few = in_range (codes "workers") workers_range configured.file.0 config.workers values.workers (omega arith) (omega arith) in record {
      some_turns = some.0;
      few_turns = some.1;
      few_workers = few_workers config workers few.1 given;
      rotates = omega (arith, rotate.0);
    }
