use Rattle.std.proofs.Common.{◌≡◌, All, map, take}
use Rattle.amt_upstream.specs.Looking.{IsChangedGroupOf}
use Rattle.amt_upstream.proofs.changed_group.sides_of.Given as goal

abbrev pub invariant-loop-group : goal.invariant-loop-group
invariant-loop-group l = record {
  groups : map (λ side. side.group) l.sides.items ≡ take l.group-index l.group-items;
  each : All (IsChangedGroupOf l.table.rows l.changes) l.sides.items;
}
