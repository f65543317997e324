use Rattle.std.proofs.Common.{refl}
use Rattle.endpoint_membership.{specs.Filters.{group_member_order, pair_of}, proofs.KeptFilters.{found_as}}
use Rattle.endpoint_membership.proofs.filters.StoredFilters.by_group.Goals as goal

pub returns : goal.returns
returns c member =
    found_as group_member_order c.self.inside.by_group c.self.inside.pairs c.args.self.now (pair_of member) member refl refl c.self.invariant c.self.view_is
