use Rattle.std.proofs.Common.{ap, ◌∙◌}
use Rattle.endpoint_membership.{specs.Filters.{membership_with}, proofs.{KeptFilters.{found_as}, PartOrders.{members_compared}}}
use Rattle.endpoint_membership.proofs.filters.StoredFilters.get.Goals as goal

pub returns : goal.returns
returns c = record {
  value = ap (membership_with c.args.at.now) c.get.ensures.value
      ∙ found_as _ c.self.inside.by_group c.self.inside.pairs c.args.self.now c.args.at.now c.member_of.result members_compared c.member_of.ensures c.self.invariant c.self.view_is;
}
