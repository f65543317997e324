-- A run of a relay on devices that are opened for it.
use Rattle.std.specs.Prelude.{◌≡◌, ℕ, List, is_some, length, Option}
use Rattle.amt_config.specs.{Relay.{settings_of}, declared.config.RelayConfig.{RelayConfig}}
use Rattle.serving_commands.specs.{declared.opening.{devices.DeviceSet.TheVariants.{Relay as OfRelay}, live.Live.{Ghosts as LiveTells}}, RelayOpenings.{asking_of, opening_by, slots_of}, RelayPlans.{plan_by}, Kinds.{relay_file}, Openings.{IsLent}, Reading.{IsConfigured}, Seen.{RelaySeen, is_asked}}
use Rattle.published_table.specs.declared.view.View.{View}
use Rattle.relay_serving.specs.{Serving.{Serves}, declared.plan.{ServePlan.{ServePlan}, ServeReport.{ServeReport}}}

-- by what the place tells, and what is seen of a set of devices
module _ {V R G : Type 0} (live : LiveTells V R G) (seen : R → RelaySeen) where
  -- The relay of these settings ran by the plan on one set of devices, which was then given back.
  pub record RunsBy (config : RelayConfig) (plan : ServePlan) (before after : V) (report : ServeReport) : Type 0 where
    -- the set that was opened, and what the run left of it
    pub opened : R
    pub left : R
    pub lent : IsLent live (opening_by config plan) (OfRelay opened) (OfRelay left) before after
    pub outs : length (seen opened).outs ≡ slots_of plan
    pub control : is_some (seen opened).control ≡ is_asked (asking_of config)
    -- the run
    pub views : List View
    pub serves : Serves (settings_of config) plan (seen opened).devices (seen left).devices
        (seen opened).control (seen left).control (seen opened).outs (seen left).outs views report

  -- the relay of the settings file's settings ran as the command says
  pub record Runs (content : Option (List ℕ)) (turns : ℕ) (workers : Option ℕ) (before after : V) (report : ServeReport) : Type 0 where
    pub config : RelayConfig
    pub configured : IsConfigured relay_file content config
    pub runs : RunsBy config (plan_by config turns workers) before after report
