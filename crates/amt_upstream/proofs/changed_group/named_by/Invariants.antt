use Rattle.std.proofs.Common.{◌≡◌, take}
use Rattle.amt_upstream.specs.Looking.{named_by}
use Rattle.amt_upstream.proofs.changed_group.named_by.Given as goal

abbrev pub invariant-loop-change : goal.invariant-loop-change
invariant-loop-change l = l.named.items ≡ named_by (take l.change-index l.changes)
