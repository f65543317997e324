use Rattle.amt_config.{specs.Gateway.{GatewayConfigOf, IsFaultInJoins, gateway_keys, table_family}, proofs.{Exactness.{exact_config, exact_fault}, GatewayLaws.{not_together, one_config, one_together, right_keys}}}
use Rattle.amt_config.proofs.gateway.gateway_settings.Goals as goal

pub returns-clause-only : goal.returns-clause-only
returns-clause-only c =
    exact_config (λ table. gateway_keys (table_family table)) IsFaultInJoins GatewayConfigOf (λ table config of. of.known) right_keys one_config one_together not_together
    c.args.bytes.now c.read_file.result c.read_file.ensures.found c.read_file.ensures.fault

pub returns-clause-first : goal.returns-clause-first
returns-clause-first c =
    exact_fault (λ table. gateway_keys (table_family table)) IsFaultInJoins GatewayConfigOf (λ table config of. of.known) right_keys one_config one_together not_together
    c.args.bytes.now c.read_file.result c.read_file.ensures.found c.read_file.ensures.fault
