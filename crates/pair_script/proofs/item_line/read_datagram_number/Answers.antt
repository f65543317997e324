use Rattle.script_lines.specs.Lines.{fields}
use Rattle.pair_script.proofs.Orders.{number_counted}
use Rattle.pair_script.proofs.item_line.read_datagram_number.Goals as goal

pub returns-in_default-clause-reason : goal.returns-in_default-clause-reason
returns-in_default-clause-reason c = number_counted (fields c.args.values.now) c.in_default.ensures.none
