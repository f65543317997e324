use Rattle.amt_dump.proofs.Noting.{noting_start, noting_more}
use Rattle.amt_dump.proofs.numbers.numbers_that_say.Goals as goal

pub loop-left-init : goal.loop-left-init
loop-left-init c = noting_start c.args.bytes.now c.new-numbers.result c.new-numbers.ensures c.requires

pub loop-left-preserved : goal.loop-left-preserved
loop-left-preserved c =
    noting_more _ _ _ _ _ _ c.loop-left.number c.loop-left.invariant c.next_line.ensures.lines c.next_line.ensures.shorter c.in_ok-note_line.ensures
