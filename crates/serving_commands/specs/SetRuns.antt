-- A relay's run on a set of devices.
use Rattle.std.specs.Prelude.{◌≡◌, List, length, max}
use Rattle.published_table.specs.declared.view.View.{View}
use Rattle.relay_machine.specs.{Settings.{AreLawfulSettings}, declared.settings.Settings.{Settings}}
use Rattle.relay_serving.specs.{Plans.{IsLawfulPlan}, Serving.{Serves}, declared.plan.{ServePlan.{ServePlan}, ServeReport.{ServeReport}}}
use Rattle.serving_commands.specs.Seen.{RelaySeen}

-- a relay of these settings can be run by the plan where this is seen
abbrev pub MayServe : Settings → ServePlan → RelaySeen → Type 0
MayServe settings plan seen = AreLawfulSettings settings × IsLawfulPlan plan × (length seen.outs ≡ max plan.workers 1)

-- it ran, by what is seen before and after
abbrev pub ServesOn : Settings → ServePlan → RelaySeen → RelaySeen → List View → ServeReport → Type 0
ServesOn settings plan before after views report =
    ∥ Serves settings plan before.devices after.devices before.control after.control before.outs after.outs views report ∥₁
