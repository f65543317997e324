use Rattle.relay_machine.specs.{Accepted.{accepted_log}, Settings.{table_settings_of}}
use Rattle.relay_machine.proofs.relay.Relay.live_endpoints.Goals as goal

pub returns : goal.returns
returns c settings first events at = c.live_endpoints.ensures (table_settings_of settings) (accepted_log settings first events) at.table
