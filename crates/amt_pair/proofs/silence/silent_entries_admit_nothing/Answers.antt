use Rattle.amt_pair.proofs.SilentEntries.{silent_chains}
use Rattle.amt_pair.proofs.silence.silent_entries_admit_nothing.Goals as goal

pub returns : goal.returns
returns c = silent_chains
