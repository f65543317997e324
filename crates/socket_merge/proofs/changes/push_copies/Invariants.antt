use Rattle.std.proofs.Common.{◌≡◌, ◌++◌, take}
use Rattle.socket_merge.proofs.changes.push_copies.Given as goal

abbrev pub invariant-loop-one : goal.invariant-loop-one
invariant-loop-one l = l.records ≡ l.initial.records ++ take l.one-index l.one-items
