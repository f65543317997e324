use Rattle.gateway_machine.proofs.SoundRuns.{run-sound}
use Rattle.gateway_machine.proofs.laws.states_have_relays.Goals as goal

pub returns-clause-known : goal.returns-clause-known
returns-clause-known c settings first events = (run-sound settings first events).relay

pub returns-clause-configured : goal.returns-clause-configured
returns-clause-configured c settings first events relay set = ((run-sound settings first events).kept relay set).0
