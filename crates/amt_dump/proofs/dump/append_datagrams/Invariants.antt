use Rattle.std.proofs.Common.{drop}
use Rattle.amt_dump.proofs.Printing.{IsPrinting}
use Rattle.amt_dump.proofs.dump.append_datagrams.Given as goal

abbrev pub invariant-loop-number : goal.invariant-loop-number
invariant-loop-number l = IsPrinting l.initial.text l.text l.numbers l.datagrams (drop l.number-index l.numbers) l.left
