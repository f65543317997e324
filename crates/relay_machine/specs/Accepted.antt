-- The accepted log of a list of events. Nothing is ever taken off it, and no table of a relay is read
-- for it.
use Rattle.std.specs.Prelude.{List, [], ◌∷◌, ◌++◌, reverse, Option, Some, None, if◌then◌else◌}
use Rattle.response_mac.specs.declared.secret.Secret.{Secret}
use Rattle.endpoint_membership.specs.{Memberships.{is_live}, Table.{TableSettings, memberships_now}, declared.change.Change.{Change, TheVariants.{Reported, Clear, Mark}}}
use Rattle.relay_machine.specs.{declared.{event.Event.{Event}, settings.Settings.{Settings}}, EventAnswer.{event_answer}, Events.{now_of, secrets_of, settings_at}, Settings.{table_settings_of}}

-- the log with one more entry, or with none
abbrev pub with_change : List Change → Option Change → List Change
with_change log None = log
with_change log (Some change) = log ++ change ∷ []

-- the entry that an event makes after these events and the log that they left
abbrev pub entry_after : Settings → Secret → List Event → List Change → Event → Option Change
entry_after settings first events log event =
    (event_answer (settings_at settings events) (secrets_of settings first events) (now_of events) log event).entry

-- the log of events, of which the newest comes first
unfoldable pub accepted_back : Settings → Secret → List Event → List Change
accepted_back settings first [] = []
accepted_back settings first (event ∷ earlier) =
    let log = accepted_back settings first earlier in
    with_change log (entry_after settings first (reverse earlier) log event)

-- the accepted log of the events: each adds one entry, or none
abbrev pub accepted_log : Settings → Secret → List Event → List Change
accepted_log settings first events = accepted_back settings first (reverse events)

-- the entry that an event adds to the log of the events before it
abbrev pub entry_of : Settings → Secret → List Event → Event → Option Change
entry_of settings first events event = entry_after settings first events (accepted_log settings first events) event

-- what a step hands out of an entry: all but a clearing of an endpoint without a membership, which
-- changes no membership, then or later
abbrev pub handed_out : TableSettings → List Change → Option Change → Option Change
handed_out terms log None = None
handed_out terms log (Some (Reported endpoint records at)) = Some (Reported endpoint records at)
handed_out terms log (Some (Mark at)) = Some (Mark at)
handed_out terms log (Some (Clear endpoint at)) = if is_live endpoint (memberships_now terms log) then Some (Clear endpoint at) else None

-- the entry that is handed out after these events
abbrev pub change_of : Settings → Secret → List Event → Event → Option Change
change_of settings first events event =
    handed_out (table_settings_of settings) (accepted_log settings first events) (entry_of settings first events event)
