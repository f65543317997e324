use Rattle.std.proofs.Common.{Some}
use Rattle.toml.specs.{Data.{as_str}, View.{items_view}}
use Rattle.gateway_script.proofs.Addresses.{IsReading}
use Rattle.amt_config.{specs.Arrays.{those_in}, proofs.Items.{those_from}}
use Rattle.amt_config.proofs.join.read_sources.Given as goal

abbrev pub invariant-loop-item : goal.invariant-loop-item
invariant-loop-item l = IsReading (Some l.fn.family) l.sources (those_in as_str (items_view l.items)) (those_from as_str l.item-index l.items)
