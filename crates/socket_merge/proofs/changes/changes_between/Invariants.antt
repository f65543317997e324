use Rattle.std.{proofs.Common.{◌≡◌, take}, specs.List.{flat_map}}
use Rattle.socket_merge.specs.Changes.{changed_on}
use Rattle.socket_merge.proofs.changes.changes_between.Given as goal

abbrev pub invariant-loop-group : goal.invariant-loop-group
invariant-loop-group l = l.records ≡ flat_map (changed_on l.before l.after) (take l.group-index l.group-items)
