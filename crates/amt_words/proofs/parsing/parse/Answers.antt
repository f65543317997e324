use Rattle.clap.proofs.WalkLemmas.{both}
use Rattle.amt_words.proofs.parsing.parse.Goals as goal

pub returns-in-Ok-clause-rows : goal.returns-in-Ok-clause-rows
returns-in-Ok-clause-rows c = (c.in-Ok.ensures.matches (both _ _ c.requires.simple).0).0

pub returns-in-Ok-clause-subcommand : goal.returns-in-Ok-clause-subcommand
returns-in-Ok-clause-subcommand c = (c.in-Ok.ensures.matches (both _ _ c.requires.simple).0).1
