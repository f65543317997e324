use Rattle.script_lines.proofs.Splitting.{lines-cut, lines-last}
use Rattle.script_lines.proofs.lines.next_line.Goals as goal

pub returns-in-None-clause-lines : goal.returns-in-None-clause-lines
returns-in-None-clause-lines c = lines-last c.args.text.now c.requires c.in-None.ensures.none

pub returns-in-Some-clause-lines : goal.returns-in-Some-clause-lines
returns-in-Some-clause-lines c = rw c.without_carriage_return.ensures (lines-cut c.args.text.now c.in-Some.line.now c.in-Some.rest.now c.in-Some.ensures.found c.in-Some.ensures.first)
