use Rattle.std.{proofs.Common.{ℕ, Option, ap, ◌∙◌}, specs.Option.{unwrap_or}}
use Rattle.amt_upstream.proofs.CountedKeys.{found_at}
use Rattle.amt_upstream.proofs.tally.Tally.number.Goals as goal

pub returns : goal.returns
returns c =
    c.unwrap_or.ensures ∙ ap (λ (entry : Option ℕ). unwrap_or entry 0) (c.copied.ensures ∙ c.get.ensures.value ∙ found_at c.args.self.now.numbers c.args.key.now)
