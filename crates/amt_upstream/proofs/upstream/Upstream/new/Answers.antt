use Rattle.amt_upstream.proofs.NumbersAfter.{IsCounted-first}
use Rattle.amt_upstream.proofs.upstream.Upstream.new.Goals as goal

pub invariant_of-result : goal.invariant_of-result
invariant_of-result c =
    IsCounted-first c.args.limits c.args.lifetime_ms c.in_ok-table.table c.new-2.result.numbers c.requires.lawful c.requires.product c.in_ok-table.ensures.stands c.in_ok-table.ensures.within c.new-2.ensures
