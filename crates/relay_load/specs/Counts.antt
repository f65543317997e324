-- What a relay's run over a script comes to, in numbers.
use Rattle.std.specs.Prelude.{ℕ, List, length, sum_by, count_by}
use Rattle.endpoint_membership.specs.{Limits.{live_count}, Table.{memberships_now}}
use Rattle.response_mac.specs.declared.secret.Secret.{Secret}
use Rattle.relay_machine.specs.{declared.{event.Event.{Event}, outcome.Outcome.{Outcome, TheVariants.{Copied}}, settings.Settings.{Settings}}, Accepted.{accepted_log}, Courses.{is_updated, outcomes_of}, Settings.{table_settings_of}}
use Rattle.amt_script.specs.{declared.script.RelayScript.{RelayScript}, Texts.{events_in}}
use Rattle.relay_load.specs.declared.summary.LoadSummary.{LoadSummary}

-- the endpoints to which a packet went, none for any other event
abbrev pub copies_in : Outcome → ℕ
copies_in (Copied count) = count
copies_in other = 0

-- of these events: how many they are, how many of them are accepted Updates, to how many endpoints in all
-- packets went, and how many endpoints have a membership at the end
abbrev pub summary_after : Settings → Secret → List Event → LoadSummary
summary_after settings first events =
    let outcomes = outcomes_of settings first events in
    record {
      events = length events;
      updated = count_by is_updated outcomes;
      copied = sum_by copies_in outcomes;
      live = live_count (memberships_now (table_settings_of settings) (accepted_log settings first events));
    }

-- of a script: where memberships are shown, nothing is counted
unfoldable pub summary_of : RelayScript → LoadSummary
summary_of script = summary_after script.settings script.secret (events_in script.items)
