-- Runs of a relay beside what all its endpoints together want.
use Rattle.std.specs.Prelude.{List}
use Rattle.endpoint_membership.specs.Table.{Holds}
use Rattle.relay_machine.specs.{Published.{published_log}, Settings.{AreLawfulSettings, table_settings_of}}
use Rattle.amt_script.specs.{Running.{IsItem, IsRelayAfter}, Texts.{RelayStart, events_in}, declared.script.RelayItem.{RelayItem}}
use Rattle.upstream_script.specs.declared.replay.UpstreamRun.{UpstreamRun}

-- from this start the items lead to the relay, and what its endpoints together want is by the log that was
-- published on the way
pub record IsUpstreamAfter (run : UpstreamRun) (start : RelayStart) (items : List RelayItem) : Type 0 where
  pub relay_at : IsRelayAfter run.relay start items
  pub upstream_at : Holds (table_settings_of start.settings) run.upstream (published_log start.settings start.secret (events_in items))

-- a relay may have the settings of the start, and takes the item
pub record MayCome (start : RelayStart) (item : RelayItem) : Type 0 where
  pub lawful : AreLawfulSettings start.settings
  pub sized : IsItem start.settings item
