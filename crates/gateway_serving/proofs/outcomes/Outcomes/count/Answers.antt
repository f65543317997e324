use Rattle.std.proofs.lemmas.Option.{slice_get_within}
use Rattle.gateway_serving.specs.OutcomeWords.{outcome_words, word_of}
use Rattle.gateway_serving.proofs.outcomes.Outcomes.count.Goals as goal

pub count_at-requires-clause-within : goal.count_at-requires-clause-within
count_at-requires-clause-within c = slice_get_within outcome_words c.place_of.result (word_of c.args.outcome.now) c.place_of.ensures
