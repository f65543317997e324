use Rattle.std.proofs.Common.{◌≡◌, ◌+◌, ◌*◌, length}
use Rattle.amt_dns_names.specs.{Name.{name_wire}, Reverse.{digit_labels}}
use Rattle.amt_dns_names.proofs.reverse.digit_name.Given as goal

abbrev pub invariant-loop-below : goal.invariant-loop-below
invariant-loop-below l = record {
  labels : l.name ≡ digit_labels l.number l.below;
  octets : length (name_wire l.name) ≡ 1 + 2 * l.below;
}
