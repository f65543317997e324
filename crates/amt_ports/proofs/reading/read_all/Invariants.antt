-- What was read so far was taken with no fault, and each turn brings it nearer to the limit.
use Rattle.std.{proofs.Common.{◌≡◌, ◌≤◌, ◌-◌, length}, specs.Io.KnownBytes.{Consumes}}
use Rattle.amt_values.specs.declared.bytes.TheConstants.{INPUT_LIMIT}
use Rattle.amt_ports.proofs.reading.read_all.Given as goal

abbrev pub invariant-loop-count : goal.invariant-loop-count
invariant-loop-count g l =
    Consumes (g.S.Source.left l.initial.source) (g.S.Source.left l.source) l.all.items
    × (length l.all.items ≤ INPUT_LIMIT)
    × (g.S.Source.faults l.source ≡ g.S.Source.faults l.initial.source)

abbrev pub decreases-loop-count : goal.decreases-loop-count
decreases-loop-count g l = INPUT_LIMIT - length l.all.items
