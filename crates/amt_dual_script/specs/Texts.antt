-- What is written of the steps of a relay and its dual gateways: parts as a pair's, of which a machine's names gateway and family.
use Rattle.std.specs.{Prelude.{ℕ, ◌++◌, List, length, map, codes, Option, Some, None}, List.{filter_map}}
use Rattle.amt_script.specs.Texts.{rows_text}
use Rattle.relay_machine.specs.Answers.{rows_after}
use Rattle.script_lines.specs.{Running.{script_text}, Texts.{family_text}}
use Rattle.socket_merge.specs.FullReport.{family_by}
use Rattle.amt_pair.specs.{Schedule.{Course}, declared.step.Part.{Part}}
use Rattle.amt_pair.specs.declared.step.Part.TheVariants as pair_parts
use Rattle.pair_script.specs.Texts.{parts_text}
use Rattle.amt_dual.specs.{Parts.{dual_parts_of}, Schedule.{dual_course_of}, Setup.{DualSetup, machines_in}, declared.{event.DualPairEvent.{DualPairEvent}, step.DualPart.{DualPart, TheVariants.{Absent, Gateway, Relay}}}}
use Rattle.amt_dual_script.specs.{Setup.{setup_of}, declared.script.{DualItem.{DualItem}, DualScript.{DualScript}}}
use Rattle.amt_dual_script.specs.declared.script.DualItem.TheVariants as items

-- the part as one of a pair: a machine's is that of a gateway which is named `NAME v4` or `NAME v6`
abbrev pub part_named : DualPart → Part
part_named (Relay step) = pair_parts.Relay step
part_named (Gateway name v6 step) = pair_parts.Gateway (name ++ (codes " " ++ family_text (family_by v6))) step
part_named (Absent number) = pair_parts.Absent number

-- the text of an event after this course
unfoldable pub event_text : DualSetup → Course → ℕ → DualPairEvent → List ℕ
event_text setup course number event =
    parts_text number (length course.up) (length course.down) (map part_named (dual_parts_of (machines_in setup) course event))

-- the events among items, in order
abbrev pub event_in : DualItem → Option DualPairEvent
event_in (items.Event event) = Some event
event_in items.Show = None

abbrev pub events_in : List DualItem → List DualPairEvent
events_in all = filter_map event_in all

-- the text of an item after this course
abbrev pub item_text_in : DualSetup → Course → ℕ → DualItem → List ℕ
item_text_in setup course number (items.Event event) = event_text setup course number event
item_text_in setup course number items.Show = rows_text number (rows_after setup.settings setup.secret course.relay)

-- the text of an item of this number, after those before it
abbrev pub item_text : DualSetup → List DualItem → ℕ → DualItem → List ℕ
item_text setup before number item = item_text_in setup (dual_course_of setup (events_in before)) number item

-- the text of a script
abbrev pub dual_script_text : DualScript → List ℕ
dual_script_text script = script_text (item_text (setup_of script)) script.items
