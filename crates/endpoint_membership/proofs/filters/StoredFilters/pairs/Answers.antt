use Rattle.std.proofs.Common.{map, sym, ap, ◌∙◌}
use Rattle.endpoint_membership.{specs.Membership.{endpoint_group_of}, proofs.KeptFilters.{pairs-kept}}
use Rattle.endpoint_membership.proofs.filters.StoredFilters.pairs.Goals as goal

pub returns-clause-keys : goal.returns-clause-keys
returns-clause-keys c = sym (pairs-kept c.self.inside.by_group c.self.inside.pairs c.self.invariant) ∙ ap (map endpoint_group_of) c.self.view_is

pub returns-clause-ordered : goal.returns-clause-ordered
returns-clause-ordered c = c.self.invariant.ordered
