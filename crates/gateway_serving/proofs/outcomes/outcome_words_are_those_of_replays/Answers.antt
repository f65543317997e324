use Rattle.gateway_serving.proofs.WordsOfReplays.{outcome_begins}
use Rattle.gateway_serving.proofs.outcomes.outcome_words_are_those_of_replays.Goals as goal

pub returns : goal.returns
returns c = outcome_begins
