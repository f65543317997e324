-- What is gone from `rest` was appended, each write takes some of it, and none of them failed.
use Rattle.std.{proofs.Common.{◌≡◌, ◌++◌, ℕ, List, length}, specs.Io.KnownBytes.{Appends}}
use Rattle.amt_ports.proofs.writing.write_all_own.Given as goal

abbrev pub invariant-loop-rest : goal.invariant-loop-rest
invariant-loop-rest g l =
    ((done : List ℕ) × (l.bytes ≡ done ++ l.rest) × Appends (g.O.Sink.written l.initial.sink) (g.O.Sink.written l.sink) done)
    × (g.O.Sink.faults l.sink ≡ g.O.Sink.faults l.initial.sink)

abbrev pub decreases-loop-rest : goal.decreases-loop-rest
decreases-loop-rest g l = length l.rest
