-- A read that failed took nothing more.
use Rattle.std.proofs.{Common.{arith}, KnownBytes.{Consumes-kept}}
use Rattle.amt_ports.proofs.reading.read_all.Goals as goal

pub returns-in-Err-clause-within : goal.returns-in-Err-clause-within
returns-in-Err-clause-within g c _ = record {
  bytes = c.loop-count.all.items;
  taken = Consumes-kept _ _ _ c.loop-count.all.items c.loop-count.invariant.0 c.in-Err.ensures.kept;
  most = c.loop-count.invariant.1;
}

pub returns-in-Err-clause-stops : goal.returns-in-Err-clause-stops
returns-in-Err-clause-stops g c = record {
  bytes = c.loop-count.all.items;
  taken = Consumes-kept _ _ _ c.loop-count.all.items c.loop-count.invariant.0 c.in-Err.ensures.kept;
  most = omega (arith, c.loop-count.invariant.1);
}
