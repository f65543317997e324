-- The counts that a device in memory keeps of its calls.
use Rattle.std.specs.Prelude.{ℕ, List}
use Rattle.amt_ports.specs.Causes.{next_count}

-- how many calls were made, the numbers of those that fail, and how many failed
pub record Tally : Type 0 where
  pub made : ℕ
  pub failing : List ℕ
  pub faults : ℕ

-- no call was made, and the calls of these numbers will fail
abbrev pub fresh_tally : List ℕ → Tally
fresh_tally failing = record { made = 0; failing = failing; faults = 0 }

-- one more call was made
abbrev pub with_call : Tally → Tally
with_call t = record t { made = next_count t.made }

-- one more call failed
abbrev pub with_fault : Tally → Tally
with_fault t = record t { faults = next_count t.faults }
