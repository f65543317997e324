use Rattle.std.proofs.Common.{ap, ◌∙◌}
use Rattle.endpoint_membership.{specs.Limits.{live_count}, proofs.CountedParts.{live_count-counted}}
use Rattle.endpoint_membership.proofs.parts.StoredMemberships.live_count.Goals as goal

pub returns : goal.returns
returns c = c.len.ensures.len ∙ live_count-counted c.self.inside.counts c.self.inside.filters c.len.ensures.ordered c.self.invariant.counted ∙ ap live_count c.self.view_is
