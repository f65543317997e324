-- A write that is asked again wrote nothing.
use Rattle.std.specs.Io.KnownBytes.{Keeps}
use Rattle.amt_ports.proofs.adapters.writer.write_uninterrupted.Given as goal

abbrev pub invariant-loop : goal.invariant-loop
invariant-loop g l = Keeps (g.W.Write.contents l.initial.writer) (g.W.Write.contents l.writer)
