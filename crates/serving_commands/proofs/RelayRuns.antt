-- A run on devices that were opened and given back, put together.
use Rattle.std.proofs.Common.{◌≡◌, ℕ, List, is_some, length, Option, IsSome, subst, ◌∙◌}
use Rattle.amt_config.specs.{Relay.{settings_of}, declared.config.RelayConfig.{RelayConfig}}
use Rattle.serving_commands.specs.{Sets.{TakesFirst, less_room, more_room}, declared.opening.{asked.Opening.{Opening, TheVariants.{Relay as AskedRelay}}, devices.DeviceSet.TheVariants.{Relay as OfRelay}, live.Live.{Ghosts as LiveTells}}}
use Rattle.serving_commands.{specs.{RelayOpenings.{IsRefusedBy, asking_of, opening_by, slots_of}, RelayPlans.{plan_by}, RelayRunning.{Runs, RunsBy}, Kinds.{relay_file}, Openings.{IsRefused}, Reading.{IsConfigured}, Seen.{RelaySeen, is_asked}}, proofs.Lending.{lent}}
use Rattle.amt_ports.specs.Told.{Appends}
use Rattle.published_table.specs.declared.view.View.{View}
use Rattle.relay_machine.specs.declared.settings.Settings.{Settings}
use Rattle.relay_serving.specs.{Serving.{Serves}, declared.plan.{ServePlan.{ServePlan}, ServeReport.{ServeReport}}}

-- the opening that was asked for is the plan's
asks : (before after : Option (List Opening)) (config : RelayConfig) (plan : ServePlan) (slots : ℕ) → slots ≡ slots_of plan
    → Appends before after (AskedRelay config.listen config.feed (asking_of config) slots) → Appends before after (opening_by config plan)
asks before after config plan slots is asked = subst (λ (number : ℕ). Appends before after (AskedRelay config.listen config.feed (asking_of config) number)) is asked

module _ {V R G : Type 0} (live : LiveTells V R G) where
  pub refused_by : (content : Option (List ℕ)) (config : RelayConfig) (turns : ℕ) (workers : Option ℕ) (before after : V) (plan : ServePlan)
      → IsConfigured relay_file content config → plan ≡ plan_by config turns workers → IsRefused live (opening_by config plan) before after
      → IsRefusedBy live content turns workers before after
  refused_by content config turns workers before after plan configured is refused = record {
    config = config;
    configured = configured;
    refused = subst (λ (one : ServePlan). IsRefused live (opening_by config one) before after) is refused;
  }

  pub refused : (config : RelayConfig) (plan : ServePlan) (before after : V) (slots : ℕ) → slots ≡ slots_of plan
      → Appends (live.asked before) (live.asked after) (AskedRelay config.listen config.feed (asking_of config) slots) → live.sets after ≡ live.sets before
      → live.returned after ≡ live.returned before → live.room after ≡ live.room before → IsRefused live (opening_by config plan) before after
  refused config plan before after slots is asked sets returned room = record {
    asked = asks _ _ config plan slots is asked;
    sets = sets;
    returned = returned;
    room = room;
  }

module _ {V R G : Type 0} (live : LiveTells V R G) (seen : R → RelaySeen) where
  pub ran : (config : RelayConfig) (plan : ServePlan) (before between after : V) (opened left : R) (views : List View) (report : ServeReport)
      (settings : Settings) (slots : ℕ) → settings ≡ settings_of config → slots ≡ slots_of plan → length (seen opened).outs ≡ slots → is_some (seen opened).control ≡ is_asked (asking_of config)
      → Appends (live.asked before) (live.asked between) (AskedRelay config.listen config.feed (asking_of config) slots)
      → TakesFirst (live.sets before) (live.sets between) (OfRelay opened) → (IsSome (live.asked before) → IsSome (live.asked between))
      → live.returned between ≡ live.returned before → live.room between ≡ more_room (live.room before)
      → Appends (live.returned between) (live.returned after) (OfRelay left) → (IsSome (live.returned between) → IsSome (live.returned after))
      → live.room after ≡ less_room (live.room between) → live.sets after ≡ live.sets between → live.asked after ≡ live.asked between
      → Serves settings plan (seen opened).devices (seen left).devices (seen opened).control (seen left).control (seen opened).outs (seen left).outs views report
      → RunsBy live seen config plan before after report
  ran config plan before between after opened left views report settings slots settings_are slots_are outs control asked first tells returned more back tells_back less sets asked_after serves = record {
    opened = opened;
    left = left;
    lent = lent live (opening_by config plan) (OfRelay opened) (OfRelay left) before between after (asks _ _ config plan slots slots_are asked) first tells returned more
        back tells_back less sets asked_after;
    outs = outs ∙ slots_are;
    control = control;
    views = views;
    serves = subst (λ (one : Settings). Serves one plan (seen opened).devices (seen left).devices (seen opened).control (seen left).control (seen opened).outs (seen left).outs views report) settings_are serves;
  }

  pub ran_by : (content : Option (List ℕ)) (config : RelayConfig) (turns : ℕ) (workers : Option ℕ) (before after : V) (plan : ServePlan) (report : ServeReport)
      → IsConfigured relay_file content config → plan ≡ plan_by config turns workers → RunsBy live seen config plan before after report
      → Runs live seen content turns workers before after report
  ran_by content config turns workers before after plan report configured is runs = record {
    config = config;
    configured = configured;
    runs = subst (λ (one : ServePlan). RunsBy live seen config one before after report) is runs;
  }
