-- The words of keys. Those that a script sets too have the same words.
use Rattle.std.specs.Prelude.{ℕ, List, codes}
use Rattle.amt_script.specs.declared.kind.Key.TheVariants as set
use Rattle.amt_script.specs.Row.{key_word}
use Rattle.gateway_script.specs.declared.kind.Key.TheVariants as set_of_gateway
use Rattle.gateway_script.specs.Row.{key_word as gateway_word}
use Rattle.amt_config.specs.declared.key.FileKey.{FileKey, TheVariants.{Relay, Listen, Feed, Query4, Query6, Number, RotateSeconds, Workers, LinuxGateways, ReportSeconds, Family, Deliver, Control, ControlAnywhere, Discovery, Source, Port, LinuxRelay, Join, Name, Group, Mode, Sources}}

abbrev pub word_of : FileKey → List ℕ
word_of Relay = key_word set.Relay
word_of Listen = codes "listen"
word_of Feed = codes "feed"
word_of Query4 = key_word set.Query4
word_of Query6 = key_word set.Query6
word_of (Number key) = key_word (set.Number key)
word_of RotateSeconds = codes "rotate_seconds"
word_of Workers = codes "workers"
word_of LinuxGateways = key_word set.LinuxGateways
word_of ReportSeconds = codes "report_seconds"
word_of Family = gateway_word set_of_gateway.Family
word_of Deliver = codes "deliver"
word_of Control = codes "control"
word_of ControlAnywhere = codes "control_anywhere"
word_of Discovery = gateway_word set_of_gateway.Discovery
word_of Source = gateway_word set_of_gateway.Source
word_of Port = gateway_word set_of_gateway.Port
word_of LinuxRelay = gateway_word set_of_gateway.LinuxRelay
word_of Join = codes "join"
word_of Name = codes "name"
word_of Group = codes "group"
word_of Mode = codes "mode"
word_of Sources = codes "sources"
