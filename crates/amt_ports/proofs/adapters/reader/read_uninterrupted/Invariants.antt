-- A read that is asked again took nothing.
use Rattle.std.{proofs.Common.{◌≡◌, length}, specs.Io.KnownBytes.{Keeps}}
use Rattle.amt_ports.proofs.adapters.reader.read_uninterrupted.Given as goal

abbrev pub invariant-loop : goal.invariant-loop
invariant-loop g l = (length l.buf ≡ length l.initial.buf) × Keeps (g.R.Read.remaining l.initial.reader) (g.R.Read.remaining l.reader)
