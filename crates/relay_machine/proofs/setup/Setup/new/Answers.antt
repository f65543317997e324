use Rattle.relay_machine.specs.declared.number_key.NumberKey.TheVariants.{Endpoints, PacketLimit, Robustness}
use Rattle.relay_machine.proofs.setup.Setup.new.Goals as goal

pub invariant_of-result-clause-robustness_fits : goal.invariant_of-result-clause-robustness_fits
invariant_of-result-clause-robustness_fits c = (c.requires.numbers Robustness).most

pub invariant_of-result-clause-packets_fit : goal.invariant_of-result-clause-packets_fit
invariant_of-result-clause-packets_fit c = (c.requires.numbers PacketLimit).most

pub invariant_of-result-clause-endpoints_fit : goal.invariant_of-result-clause-endpoints_fit
invariant_of-result-clause-endpoints_fit c = (c.requires.numbers Endpoints).most
