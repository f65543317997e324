use Rattle.std.{proofs.Common.{None, false, ap, subst, ◌∙◌}, specs.declared.cmp.Ordering.{Ordering}}
use Rattle.std.specs.BTreeSet as sorted
use Rattle.endpoint_membership.{specs.{EndpointGroup.{EndpointGroup}, Filters.{membership_with}}, proofs.{KeptFilters.{HaveSamePairs-set, IsSet-updated, found_as, set_as}, PartOrders.{members_compared, pairs_compared}}}
use Rattle.endpoint_membership.proofs.filters.StoredFilters.remove.Goals as goal

abbrev Order : Type 0
Order = EndpointGroup → EndpointGroup → Ordering

pub invariant_of-self : goal.invariant_of-self
invariant_of-self c =
    HaveSamePairs-set c.self.inside.by_group c.remove-2.new.self c.self.inside.pairs c.remove.new.self c.args.at.now None c.self.invariant
    (IsSet-updated _ c.self.inside.by_group c.remove-2.new.self c.args.at.now c.member_of.result None members_compared c.member_of.ensures c.remove-2.ensures.updates.0)
    (subst (λ (order : Order). sorted.Updates order c.self.inside.pairs c.remove.new.self c.args.at.now false) pairs_compared c.remove.ensures.updates).0
    (subst (λ (order : Order). sorted.IsOrdered order c.remove.new.self) pairs_compared c.remove.ensures.ordered)

pub returns-clause-value : goal.returns-clause-value
returns-clause-value c =
    ap (membership_with c.args.at.now) c.remove-2.ensures.value
    ∙ found_as _ c.self.inside.by_group c.self.inside.pairs c.args.self.now c.args.at.now c.member_of.result members_compared c.member_of.ensures c.self.invariant c.self.view_is

pub returns-clause-set : goal.returns-clause-set
returns-clause-set c =
    set_as c.self.inside.by_group c.remove-2.new.self c.self.inside.pairs c.remove.new.self c.args.self.now c.args.at.now None c.self.invariant (invariant_of-self c)
    (IsSet-updated _ c.self.inside.by_group c.remove-2.new.self c.args.at.now c.member_of.result None members_compared c.member_of.ensures c.remove-2.ensures.updates.0) c.self.view_is
