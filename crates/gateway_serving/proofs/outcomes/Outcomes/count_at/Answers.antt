use Rattle.gateway_serving.{specs.OutcomeWords.{outcome_words}, proofs.OutcomeCounts.{words_apart}}
use Rattle.gateway_serving.proofs.outcomes.Outcomes.count_at.Goals as goal

pub returns : goal.returns
returns c = λ word is said was. c.count.ensures.said outcome_words said word words_apart is was
