-- What a line of a relay's script says.
use Rattle.std.specs.Prelude.{◌≡◌, ℕ, List}
use Rattle.amt_values.specs.{declared.address.Ip.TheVariants.{V4, V6}, Text.{IsIpText, IsPeerText}}
use Rattle.relay_machine.specs.{declared.event.Event.{Event}, Settings.{number_row}}
use Rattle.relay_machine.specs.declared.event.Event.TheVariants as events
use Rattle.script_lines.specs.{Form.{IsFlagText, IsMomentText, IsNumberText, IsHexText, IsSecretText}, Lines.{fields, IsPlain}, Shape.{HasField, HasTwoFields, HasThreeFields}}
use Rattle.amt_script.specs.declared.kind.Key.TheVariants as keys
use Rattle.amt_script.specs.declared.kind.Kind.TheVariants as kinds
use Rattle.amt_script.specs.{declared.{script.RelayItem.{RelayItem}, setting.Setting.{Setting}}, Row.{words_of}}
use Rattle.amt_script.specs.declared.script.RelayItem.TheVariants as items
use Rattle.amt_script.specs.declared.setting.Setting.TheVariants as settings

-- a line `set` of these fields gives the setting
abbrev pub SaysSetting : Setting → List (List ℕ) → Type 0
SaysSetting (settings.Relay ip) = HasField (words_of (kinds.Set keys.Relay)) (IsIpText ip)
SaysSetting (settings.Query4 number) = HasField (words_of (kinds.Set keys.Query4)) (IsIpText (V4 number))
SaysSetting (settings.Query6 number) = HasField (words_of (kinds.Set keys.Query6)) (IsIpText (V6 number))
SaysSetting (settings.Number key number) =
    HasField (words_of (kinds.Set (keys.Number key))) (IsNumberText (number_row key).least (number_row key).most number)
SaysSetting (settings.Secret secret) = HasField (words_of (kinds.Set keys.Secret)) (IsSecretText secret)
SaysSetting (settings.LinuxGateways flag) = HasField (words_of (kinds.Set keys.LinuxGateways)) (IsFlagText flag)

-- the decimal digits of a limit
abbrev pub IsLimitText : ℕ → List ℕ → Type 0
IsLimitText limit = IsNumberText 1 4294967295 limit

-- a line of these fields says the event
abbrev pub SaysEvent : Event → List (List ℕ) → Type 0
SaysEvent (events.Moment ms) = HasField (words_of kinds.Moment) (IsMomentText ms)
SaysEvent (events.Datagram bytes from) = HasTwoFields (words_of kinds.Datagram) (IsPeerText from) (IsHexText bytes)
SaysEvent (events.Packet bytes) = HasField (words_of kinds.Packet) (IsHexText bytes)
SaysEvent (events.Rotate secret) = HasField (words_of kinds.Secret) (IsSecretText secret)
SaysEvent (events.Limits limits) =
    HasThreeFields (words_of kinds.Limits) (IsLimitText limits.endpoints) (IsLimitText limits.groups) (IsLimitText limits.sources)

-- an event, or the word alone by which the memberships are shown
abbrev pub SaysItem : RelayItem → List (List ℕ) → Type 0
SaysItem (items.Event event) line = SaysEvent event line
SaysItem items.Show line = line ≡ words_of kinds.Show

-- the octets of a line say the item
abbrev pub IsItemLine : RelayItem → List ℕ → Type 0
IsItemLine item line = IsPlain line × SaysItem item (fields line)
