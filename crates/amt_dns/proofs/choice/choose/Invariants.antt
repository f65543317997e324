use Rattle.std.proofs.Common.{ℕ, ◌<◌, ◌≤◌, length, get_or}
use Rattle.amt_dns.specs.declared.found.Found.{Found as FoundValue}
use Rattle.amt_dns.proofs.choice.choose.Given as goal

abbrev pub invariant-loop-index : goal.invariant-loop-index
invariant-loop-index l = record {
  within : l.place < length l.list;
  first : (k : ℕ) (d : FoundValue) → k < l.place → (get_or l.list l.place d).precedence < (get_or l.list k d).precedence;
  least : (k : ℕ) (d : FoundValue) → k < l.index → (get_or l.list l.place d).precedence ≤ (get_or l.list k d).precedence;
}
