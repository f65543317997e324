use Rattle.amt_upstream.proofs.Looked.{IsAfter-none}
use Rattle.amt_upstream.proofs.upstream.joined_filter.Goals as goal

pub returns : goal.returns
returns c =
    let rows = c.args.table.now.rows in
    c.look_after.ensures rows (IsAfter-none rows c.args.tally.now.numbers c.requires.ascend c.requires.numbers c.requires.in_order)
