use Rattle.std.proofs.Common.{◌∙◌}
use Rattle.endpoint_membership.proofs.{KeptFilters.{there_as}, PartOrders.{pairs_compared}}
use Rattle.endpoint_membership.proofs.filters.StoredFilters.contains_key.Goals as goal

pub returns : goal.returns
returns c =
    c.contains.ensures ∙ there_as _ c.self.inside.by_group c.self.inside.pairs c.args.self.now c.args.at.now pairs_compared c.self.invariant c.self.view_is
