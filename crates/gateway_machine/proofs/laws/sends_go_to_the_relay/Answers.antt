use Rattle.gateway_machine.proofs.SoundRuns.{directed}
use Rattle.gateway_machine.proofs.laws.sends_go_to_the_relay.Goals as goal

pub returns : goal.returns
returns c = directed
