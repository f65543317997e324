use Rattle.std.proofs.Common.{inl, inr, rules}
use Rattle.amt_words.proofs.relay.workers.Goals as goal

pub returns-clause-range : goal.returns-clause-range
returns-clause-range c = elim c.requires.given [
  | inl none ↦ rw (c.get_one.ensures.none none) tt
  | inr some ↦ let read = c.get_one.ensures.value _ some.1 in search rules
]
