use Rattle.std.proofs.Common.{take, All}
use Rattle.amt_values.specs.Address.{IsAddress}
use Rattle.amt_pair.proofs.ranges.addresses_fit.Given as goal

abbrev pub invariant-loop-source : goal.invariant-loop-source
invariant-loop-source l = record { fit : All IsAddress (take l.source-index l.sources) }
