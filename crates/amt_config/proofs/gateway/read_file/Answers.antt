use Rattle.toml.specs.View.{table_view}
use Rattle.amt_config.{specs.Gateway.{IsFaultInJoins, IsGatewayTableFault, gateway_keys, table_family}, proofs.Exactness.{in_file, no_file, unknown_fault_or, value_fault_or}}
use Rattle.amt_config.proofs.gateway.read_file.Goals as goal

pub returns-in-Err-clause-fault : goal.returns-in-Err-clause-fault
returns-in-Err-clause-fault c = no_file IsGatewayTableFault c.args.bytes.now c.in-Err.fault c.in-Err.ensures.fault

pub returns-in-Err-check_keys-clause-fault : goal.returns-in-Err-check_keys-clause-fault
returns-in-Err-check_keys-clause-fault c =
    let table = table_view c.in-Ok.table in
    in_file IsGatewayTableFault c.args.bytes.now table c.in-Err-check_keys.fault c.in-Ok.ensures.found
    (unknown_fault_or (gateway_keys (table_family table)) IsFaultInJoins table c.in-Err-check_keys.fault c.in-Err-check_keys.ensures.unknown)

pub returns-in-Ok-read_values-clause-found : goal.returns-in-Ok-read_values-clause-found
returns-in-Ok-read_values-clause-found c =
    (table_view c.in-Ok.table, c.in-Ok.ensures.found, record { known = c.in-Ok-check_keys.ensures.known; values = c.in-Ok-read_values.ensures.found })

pub returns-clause-fault : goal.returns-clause-fault
returns-clause-fault c =
    let table = table_view c.in-Ok.table in
    in_file IsGatewayTableFault c.args.bytes.now table c.in-Err-read_values.fault c.in-Ok.ensures.found
    (value_fault_or (gateway_keys (table_family table)) IsFaultInJoins table c.in-Err-read_values.fault c.in-Ok-check_keys.ensures.known c.in-Err-read_values.ensures.fault)
