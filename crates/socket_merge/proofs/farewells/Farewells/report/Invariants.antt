use Rattle.std.{proofs.Common.{◌≡◌, map}, specs.{List.{flat_map}, Map.Iter.{deref_pair}}}
use Rattle.socket_merge.specs.Kept.{said_of}
use Rattle.socket_merge.proofs.farewells.Farewells.report.Given as goal

abbrev pub invariant-loop-group : goal.invariant-loop-group
invariant-loop-group l = record {
  can_next : (goal.iterator-loop-group).can_next l.group-iterator;
  is_finite : (goal.iterator-loop-group).is_finite l.group-iterator;
  records : l.records ≡ flat_map (said_of l.family l.named l.at l.keep_ms) (map deref_pair l.yielded);
}
