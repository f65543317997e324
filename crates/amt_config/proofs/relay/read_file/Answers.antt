use Rattle.toml.specs.View.{table_view}
use Rattle.amt_config.{specs.Relay.{IsFaultTogether, IsRelayTableFault, relay_keys, table_anywhere}, proofs.Exactness.{in_file, value_fault_or}}
use Rattle.amt_config.proofs.relay.read_file.Goals as goal

pub returns-clause-fault : goal.returns-clause-fault
returns-clause-fault c =
    in_file IsRelayTableFault c.args.bytes.now (table_view c.in-Ok.table) c.in-Err-read_config.fault c.in-Ok.ensures.found
    (value_fault_or (relay_keys (table_anywhere (table_view c.in-Ok.table))) IsFaultTogether (table_view c.in-Ok.table) c.in-Err-read_config.fault c.in-Ok-check_keys.ensures.known c.in-Err-read_config.ensures.fault)
