use Rattle.std.proofs.Common.{drop}
use Rattle.amt_dump.proofs.Printing.{printed_all, printing_start}
use Rattle.amt_dump.proofs.dump.append_datagrams.Goals as goal

pub loop-number-init : goal.loop-number-init
loop-number-init c = printing_start c.args.text.now c.args.numbers.now c.args.datagrams.now c.requires

pub returns-in_default : goal.returns-in_default
returns-in_default c =
    printed_all c.args.text.now c.loop-number.text c.args.numbers.now c.args.datagrams.now (drop c.loop-number.number-index c.args.numbers.now) c.loop-number.left.now c.loop-number.invariant
    c.in_default.ensures.cases
