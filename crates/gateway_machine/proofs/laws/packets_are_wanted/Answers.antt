use Rattle.gateway_machine.proofs.SoundRuns.{wanted}
use Rattle.gateway_machine.proofs.laws.packets_are_wanted.Goals as goal

pub returns : goal.returns
returns c = wanted
