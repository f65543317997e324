use Rattle.endpoint_membership.proofs.PublishedLog.{AnswerAlike-published, IsPublishedPart-prefix}
use Rattle.endpoint_membership.proofs.published.published_logs_tell_what_accepted_ones_do.Goals as goal

pub returns-clause-whole : goal.returns-clause-whole
returns-clause-whole c = AnswerAlike-published

pub returns-clause-prefixes : goal.returns-clause-prefixes
returns-clause-prefixes c = IsPublishedPart-prefix
