use Rattle.endpoint_membership.proofs.CountedLive.{one_less}
use Rattle.endpoint_membership.proofs.parts.StoredMemberships.count_others.Goals as goal

pub overflow_sub-result : goal.overflow_sub-result
overflow_sub-result c = (one_less c.args.besides.now c.args.self.now c.is_live.result c.live_count.result c.one_unless.result c.live_count.ensures c.is_live.ensures c.one_unless.ensures.value).0

pub returns : goal.returns
returns c = (one_less c.args.besides.now c.args.self.now c.is_live.result c.live_count.result c.one_unless.result c.live_count.ensures c.is_live.ensures c.one_unless.ensures.value).1
