use Rattle.amt_command.proofs.Lookups.{answer_told}
use Rattle.amt_command.proofs.dns.read_octets.Goals as goal

pub returns-clause-fault : goal.returns-clause-fault
returns-clause-fault c = λ word bytes names line.
    answer_told word bytes c.args.octets.now c.args.source.now c.in-Err.fault c.answer_fault.result c.answer_fault.ensures (rw (← c.in-Ok.ensures) c.in-Err.ensures.refused) names line
