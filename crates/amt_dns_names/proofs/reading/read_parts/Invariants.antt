use Rattle.amt_dns_names.specs.Reading.{Leads}
use Rattle.amt_dns_names.proofs.reading.read_parts.Given as goal

abbrev pub invariant-loop-place : goal.invariant-loop-place
invariant-loop-place l = Leads l.bytes l.at l.name l.known l.start l.start

abbrev pub decreases-loop-place : goal.decreases-loop-place
decreases-loop-place l = l.start
