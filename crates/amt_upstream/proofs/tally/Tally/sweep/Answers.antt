use Rattle.std.proofs.Common.{sym, true≢false, ◌∙◌}
use Rattle.amt_upstream.proofs.CountedKeys.{HasSwept-kept, HasSwept-removed}
use Rattle.amt_upstream.proofs.tally.Tally.sweep.Goals as goal

pub returns-then-is_at_zero : goal.returns-then-is_at_zero
returns-then-is_at_zero c =
    HasSwept-removed c.args.self.now.numbers c.remove.new.self c.args.key.now (c.is_at_zero.ensures.0 c.if-is_at_zero.true) c.remove.ensures.updates

pub returns-else-is_at_zero : goal.returns-else-is_at_zero
returns-else-is_at_zero c = HasSwept-kept c.args.self.now.numbers c.args.key.now (λ none. true≢false (sym (c.is_at_zero.ensures.1 none) ∙ c.if-is_at_zero.false))
