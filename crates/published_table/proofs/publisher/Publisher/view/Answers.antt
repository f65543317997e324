use Rattle.published_table.proofs.RuleKept.{admits, forks, greets}
use Rattle.published_table.proofs.publisher.Publisher.view.Goals as goal

pub reader-requires : goal.reader-requires
reader-requires c = admits

pub tell-requires : goal.tell-requires
tell-requires c = forks _ _

pub learn-requires-clause-rule : goal.learn-requires-clause-rule
learn-requires-clause-rule c = greets _ _ _ _
