-- What is written of a relay's run and of what all its endpoints together want.
use Rattle.std.specs.Prelude.{ℕ, List, [], ◌∷◌, ◌++◌, codes, flat_map}
use Rattle.response_mac.specs.declared.secret.Secret.{Secret}
use Rattle.source_filter.specs.declared.record.Record.{Record}
use Rattle.endpoint_membership.specs.{Membership.{Membership}, Table.{memberships_now}}
use Rattle.amt_upstream.specs.Upstream.{records_between}
use Rattle.relay_machine.specs.{Published.{published_log}, Settings.{table_settings_of}, declared.{event.Event.{Event}, settings.Settings.{Settings}}}
use Rattle.script_lines.specs.Running.{script_text}
use Rattle.amt_script.specs.{Texts.{RelayStart, events_in, group_record_text, item_text as relay_item_text}, declared.script.{RelayItem.{RelayItem}, RelayScript.{RelayScript}}}
use Rattle.amt_script.specs.declared.script.RelayItem.TheVariants as items

-- `+ KIND GROUP SOURCES`: one change record that a relay's own network has to hear (RFC 3376, section 5.1)
unfoldable pub change_line : Record → List ℕ
change_line one = codes "+ " ++ (group_record_text one ++ 10 ∷ [])

-- the memberships by the log that is published of the events
abbrev pub published_memberships : Settings → Secret → List Event → List Membership
published_memberships settings first events = memberships_now (table_settings_of settings) (published_log settings first events)

-- the change records of an event after these events: from what all endpoints together wanted before it to what
-- they want with it
abbrev pub records_after : Settings → Secret → List Event → Event → List Record
records_after settings first events event =
    records_between (published_memberships settings first events) (published_memberships settings first (events ++ event ∷ []))

-- the item's text in a relay's run, and of an event a line for each of its change records
abbrev pub item_text : Settings → Secret → List Event → ℕ → RelayItem → List ℕ
item_text settings first events number (items.Event event) =
    relay_item_text settings first events number (items.Event event) ++ flat_map change_line (records_after settings first events event)
item_text settings first events number items.Show = relay_item_text settings first events number items.Show

-- the text of an item after those before it
abbrev pub text_after : RelayStart → List RelayItem → ℕ → RelayItem → List ℕ
text_after start before number item = item_text start.settings start.secret (events_in before) number item

-- what the script's run begins with
abbrev pub start_of : RelayScript → RelayStart
start_of script = record { settings = script.settings; secret = script.secret }

-- the text of a relay script
abbrev pub upstream_script_text : RelayScript → List ℕ
upstream_script_text script = script_text (text_after (start_of script)) script.items
