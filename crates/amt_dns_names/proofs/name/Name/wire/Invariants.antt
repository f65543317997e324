use Rattle.std.proofs.Common.{◌≡◌, take}
use Rattle.std.specs.List.{flat_map}
use Rattle.amt_dns_names.specs.Name.{label_wire}
use Rattle.amt_dns_names.proofs.name.Name.wire.Given as goal

abbrev pub invariant-loop-label : goal.invariant-loop-label
invariant-loop-label l = l.wire ≡ flat_map label_wire (take l.label-index l.label-items)
