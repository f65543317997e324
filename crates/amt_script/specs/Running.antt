-- Runs of a relay over a script, and which scripts it can be run over.
use Rattle.std.specs.{Prelude.{List}, List.{AllByRecursion}}
use Rattle.relay_machine.specs.{EventSize.{IsEvent}, Answers.{RelayAt}, Settings.{AreLawfulSettings}, declared.{relay.Relay.{Relay}, settings.Settings.{Settings}}}
use Rattle.amt_script.specs.{declared.script.{RelayItem.{RelayItem, TheVariants.{Event, Show}}, RelayScript.{RelayScript}}, Texts.{events_in, RelayStart}}

-- a relay of these settings takes the item
abbrev pub IsItem : Settings → RelayItem → Type 0
IsItem settings (Event event) = IsEvent settings event
IsItem settings Show = Unit {0}

-- a relay may have its settings, and each item may be given to it
pub record IsRunnable (script : RelayScript) : Type 0 where
  pub lawful : AreLawfulSettings script.settings
  pub sized : AllByRecursion (IsItem script.settings) script.items

-- from this start the items lead to the relay
abbrev pub IsRelayAfter : Relay → RelayStart → List RelayItem → Type 0
IsRelayAfter relay start items = RelayAt relay start.settings start.secret (events_in items)
