use Rattle.program_tests.specs.Following.{AreOfOneLog}
use Rattle.program_tests.proofs.upstream.run.Given as goal

abbrev pub invariant-loop-given : goal.invariant-loop-given
invariant-loop-given g l = AreOfOneLog l.table l.upstream
