use Rattle.std.proofs.Common.{List, length, ap, ◌∙◌}
use Rattle.endpoint_membership.{specs.Membership.{Membership}, proofs.KeptFilters.{length-kept}}
use Rattle.endpoint_membership.proofs.filters.StoredFilters.len.Goals as goal

pub returns-clause-len : goal.returns-clause-len
returns-clause-len c =
    c.len.ensures.len ∙ length-kept c.self.inside.by_group c.self.inside.pairs c.self.invariant ∙ ap (λ (rows : List Membership). length rows) c.self.view_is
