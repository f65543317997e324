-- How devices are opened for a run.
use Rattle.std.specs.Prelude.{ℕ, List, Option, max}
use Rattle.amt_config.specs.declared.config.RelayConfig.{RelayConfig}
use Rattle.serving_commands.specs.{declared.opening.{asked.{AskedBy.{AskedBy}, Opening.{Opening, TheVariants.{Relay as AskedRelay}}}, live.Live.{Ghosts as LiveTells}}, RelayPlans.{plan_by}, Kinds.{relay_file}, Openings.{IsRefusedFor}}
use Rattle.relay_serving.specs.declared.plan.ServePlan.{ServePlan}

-- a link out for each worker, and one where there is none
abbrev pub slots_of : ServePlan → ℕ
slots_of plan = max plan.workers 1

-- who asks a relay of these settings
abbrev pub asking_of : RelayConfig → AskedBy
asking_of config = record { control = config.control; report_seconds = config.report_seconds }

-- what the run of a plan asks for: the link, the feed and who asks are those of the settings
abbrev pub opening_by : RelayConfig → ServePlan → Opening
opening_by config plan = AskedRelay config.listen config.feed (asking_of config) (slots_of plan)

-- what the settings and the command ask for was refused
abbrev pub IsRefusedBy : {V R G : Type 0} → LiveTells V R G → Option (List ℕ) → ℕ → Option ℕ → V → V → Type 0
IsRefusedBy live content turns workers before after =
    IsRefusedFor live relay_file (λ config. opening_by config (plan_by config turns workers)) content before after
