use Rattle.amt_config.{specs.Relay.{IsFaultTogether, RelayConfigOf, relay_keys, table_anywhere}, proofs.{Exactness.{exact_config, exact_fault}, RelayLaws.{not_together, one_config, one_together, right_keys}}}
use Rattle.amt_config.proofs.relay.relay_settings.Goals as goal

pub returns-clause-only : goal.returns-clause-only
returns-clause-only c =
    exact_config (λ table. relay_keys (table_anywhere table)) IsFaultTogether RelayConfigOf (λ table config of. of.known) (λ table config of. right_keys table config of.values)
    one_config one_together not_together c.args.bytes.now c.read_file.result c.read_file.ensures.found c.read_file.ensures.fault

pub returns-clause-first : goal.returns-clause-first
returns-clause-first c =
    exact_fault (λ table. relay_keys (table_anywhere table)) IsFaultTogether RelayConfigOf (λ table config of. of.known) (λ table config of. right_keys table config of.values)
    one_config one_together not_together c.args.bytes.now c.read_file.result c.read_file.ensures.found c.read_file.ensures.fault
