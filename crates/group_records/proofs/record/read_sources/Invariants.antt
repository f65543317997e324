use Rattle.std.proofs.Common.{◌≡◌, ◌≤◌, ◌*◌, ◌-◌, ◌++◌, length, map}
use Rattle.group_records.specs.{Family.{address_in, width}, Reading.{numbers_at}}
use Rattle.group_records.proofs.record.read_sources.Given as goal

abbrev pub invariant-loop : goal.invariant-loop
invariant-loop l = record {
  enough : (l.count - l.counter) * width l.family ≤ length l.left;
  read : l.sources ++ map (address_in l.family) (numbers_at (width l.family) (l.count - l.counter) l.left)
      ≡ map (address_in l.family) (numbers_at (width l.family) l.count l.octets);
}
