use Rattle.std.proofs.Common.{Some}
use Rattle.toml.specs.{Data.{as_table}, View.{items_view}}
use Rattle.amt_config.{specs.Arrays.{those_in}, proofs.{Items.{those_from}, OpenedJoins.{AreOpened}}}
use Rattle.amt_config.proofs.joins.read_joins.Given as goal

abbrev pub invariant-loop-item : goal.invariant-loop-item
invariant-loop-item l = AreOpened (Some l.fn.family) (those_in as_table (items_view l.items)) l.joins (those_from as_table l.item-index l.items) l.sockets
