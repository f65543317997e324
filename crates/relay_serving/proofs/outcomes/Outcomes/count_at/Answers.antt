use Rattle.std.proofs.Common.{refl}
use Rattle.relay_serving.{specs.OutcomeWords.{outcome_words}, proofs.OutcomeCounts.{words_apart}}
use Rattle.relay_serving.proofs.outcomes.Outcomes.count_at.Goals as goal

pub returns : goal.returns
returns c = record {
  counts = λ word is. record { numbers = λ said was. c.count.ensures.said outcome_words said word words_apart is was; same_limit = refl };
}
