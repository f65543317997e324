use Rattle.std.{proofs.Common.{ℕ, Some, is_some, sym, subst, ap, ◌∙◌}, specs.BTreeMap.{Updates}}
use Rattle.amt_upstream.specs.contracts.count_key.CountKeyOrd as keys
use Rattle.amt_upstream.proofs.CountedKeys.{HasLowered-none, HasLowered-set, found_at}
use Rattle.amt_upstream.proofs.tally.Tally.lower_one.Goals as goal

pub returns-in_default : goal.returns-in_default
returns-in_default c =
    let tally = c.args.self.now.numbers in
    rw c.get_mut.follows.holds-at-none (HasLowered-none tally c.args.key.now (sym (found_at tally c.args.key.now) ∙ sym c.in_default.ensures.value))

pub returns : goal.returns
returns c =
    let tally = c.args.self.now.numbers in
    let found = sym c.in-Some.ensures.value in
    let after = c.get_mut.follows.lender c.saturating_sub.result in
    HasLowered-set tally after c.args.key.now c.in-Some.number.now (sym (found_at tally c.args.key.now) ∙ found)
    (subst (λ (n : ℕ). Updates (keys.TheImpl.ghosts).cmp tally after c.args.key.now (Some n)) c.saturating_sub.ensures ((c.get_mut.follows.holds c.saturating_sub.result).3 (ap is_some found)))
