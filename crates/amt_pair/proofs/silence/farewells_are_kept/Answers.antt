use Rattle.amt_pair.proofs.KeptFarewells.{run-keeps_farewells}
use Rattle.amt_pair.proofs.silence.farewells_are_kept.Goals as goal

pub returns : goal.returns
returns c = run-keeps_farewells
