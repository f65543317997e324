use Rattle.toml.specs.View.{table_view}
use Rattle.amt_config.{specs.Relay.{IsFaultTogether, relay_keys, table_anywhere}, proofs.{Faults.{no_else, settled}, RelayLaws.{together_or}}}
use Rattle.amt_config.proofs.relay.read_config.Goals as goal

pub returns-in-Err-clause-fault : goal.returns-in-Err-clause-fault
returns-in-Err-clause-fault c =
    settled (table_view c.args.table.now) c.in-Err.fault (relay_keys (table_anywhere (table_view c.args.table.now))) _ (IsFaultTogether (table_view c.args.table.now) c.in-Err.fault) no_else c.in-Err.ensures.fault

pub returns-in-Some-clause-fault : goal.returns-in-Some-clause-fault
returns-in-Some-clause-fault c =
    together_or (table_view c.args.table.now) c.in-Ok.config c.in-Some.key c.told.result c.in-Ok.ensures.found c.in-Some.ensures.found c.told.ensures
