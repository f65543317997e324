use Rattle.relay_machine.proofs.PublishedLog.{published_log-next, published_log-none, published_log-prefixes, published_log-whole, published_log-within}
use Rattle.relay_machine.proofs.published.steps_hand_out_the_published_log.Goals as goal

pub returns-clause-none : goal.returns-clause-none
returns-clause-none c = published_log-none

pub returns-clause-next : goal.returns-clause-next
returns-clause-next c = published_log-next

pub returns-clause-whole : goal.returns-clause-whole
returns-clause-whole c = published_log-whole

pub returns-clause-prefixes : goal.returns-clause-prefixes
returns-clause-prefixes c = published_log-prefixes

pub returns-clause-within : goal.returns-clause-within
returns-clause-within c = published_log-within
