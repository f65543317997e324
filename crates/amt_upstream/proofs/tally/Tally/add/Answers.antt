use Rattle.std.{proofs.Common.{ℕ, ◌+◌, Some, sym, subst, ◌∙◌}, specs.BTreeMap.{Updates}}
use Rattle.amt_upstream.specs.contracts.count_key.CountKeyOrd as keys
use Rattle.amt_upstream.proofs.CountedKeys.{HasRaised-set, found_at}
use Rattle.amt_upstream.proofs.tally.Tally.add.Goals as goal

pub returns-in-Ok-clause-ok : goal.returns-in-Ok-clause-ok
returns-in-Ok-clause-ok c =
    HasRaised-set c.args.self.now.numbers c.insert.new.self c.args.key.now
    (subst (λ (n : ℕ). Updates (keys.TheImpl.ghosts).cmp c.args.self.now.numbers c.insert.new.self c.args.key.now (Some (n + 1))) c.number-number.ensures c.in-Ok.ensures.updates)

pub returns-in-Err-clause-absent : goal.returns-in-Err-clause-absent
returns-in-Err-clause-absent c = sym (found_at c.args.self.now.numbers c.args.key.now) ∙ c.in-Err.ensures.absent
