use Rattle.toml.specs.View.{table_view}
use Rattle.amt_config.{specs.Words.{words_in}, proofs.Scanning.{IsScanned}}
use Rattle.amt_config.proofs.table.least_unknown.Given as goal

abbrev pub invariant-loop-key : goal.invariant-loop-key
invariant-loop-key l = IsScanned (words_in l.kind) (table_view l.table) l.key-iterator
