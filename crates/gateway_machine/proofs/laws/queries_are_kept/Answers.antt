use Rattle.gateway_machine.proofs.SoundRuns.{run-sound}
use Rattle.gateway_machine.proofs.laws.queries_are_kept.Goals as goal

pub returns : goal.returns
returns c settings first events = (run-sound settings first events).query
