use Rattle.toml.specs.View.{table_view}
use Rattle.amt_config.proofs.GatewayLaws.{after_family, bad_family}
use Rattle.amt_config.proofs.gateway.read_values.Goals as goal

pub returns-in-Err-clause-fault : goal.returns-in-Err-clause-fault
returns-in-Err-clause-fault c = bad_family (table_view c.args.table.now) c.in-Err.fault c.in-Err.ensures.fault

pub returns-in-Err-read_of_family-clause-fault : goal.returns-in-Err-read_of_family-clause-fault
returns-in-Err-read_of_family-clause-fault c =
    after_family (table_view c.args.table.now) c.in-Ok.family c.in-Err-read_of_family.fault c.in-Ok.ensures.found c.in-Err-read_of_family.ensures.fault
