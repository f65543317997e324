use Rattle.std.proofs.Common.{◌∙◌}
use Rattle.endpoint_membership.proofs.CountedLive.{all_counted}
use Rattle.endpoint_membership.proofs.parts.StoredMemberships.count_live.Goals as goal

pub returns-in-None : goal.returns-in-None
returns-in-None c = c.count_others.ensures ∙ all_counted c.args.lifetime_ms c.args.moment c.args.besides.now c.args.self.now c.in-None.ensures.none
