use Rattle.std.proofs.Common.{ℕ, ◌-◌, Option, length}
use Rattle.amt_dns_names.specs.Reading.{Leads}
use Rattle.amt_dns_names.proofs.reading.read_labels.Given as goal

abbrev pub invariant-loop-label : goal.invariant-loop-label
invariant-loop-label l = (name_at : ℕ) (known : Option ℕ) → Leads l.bytes name_at l.initial.name known l.initial.at l.initial.at
    → Leads l.bytes name_at l.name known l.initial.at l.at

abbrev pub decreases-loop-label : goal.decreases-loop-label
decreases-loop-label l = length l.bytes - l.at
