use Rattle.std.proofs.Common.{◌≡◌, drop}
use Rattle.toml.specs.{Data.{as_table}, View.{items_view}}
use Rattle.amt_config.specs.Arrays.{all_are}
use Rattle.amt_config.proofs.arrays.are_tables.Given as goal

abbrev pub invariant-loop-item : goal.invariant-loop-item
invariant-loop-item l = all_are as_table (items_view (drop l.item-index l.items)) ≡ all_are as_table (items_view l.items)
