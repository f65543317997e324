use Rattle.std.proofs.Common.{None, Some, true, subst, ◌∙◌}
use Rattle.std.specs.BTreeSet as sorted
use Rattle.std.specs.declared.cmp.Ordering.{Ordering}
use Rattle.endpoint_membership.{specs.EndpointGroup.{EndpointGroup}, proofs.{KeptFilters.{HaveSamePairs-same, HaveSamePairs-set, IsSet-updated, filter_at-none, same_filters, set_as, undone}, PartOrders.{members_compared, pairs_compared}}}
use Rattle.endpoint_membership.proofs.filters.StoredFilters.insert.Goals as goal

abbrev Order : Type 0
Order = EndpointGroup → EndpointGroup → Ordering

pub invariant_of-self-in-Ok : goal.invariant_of-self-in-Ok
invariant_of-self-in-Ok c =
    HaveSamePairs-set c.self.inside.by_group c.insert.new.self c.self.inside.pairs c.insert-2.new.self c.args.at (Some c.args.stored) c.self.invariant
    (IsSet-updated _ c.self.inside.by_group c.insert.new.self c.args.at c.member_of-member.result (Some c.args.stored) members_compared c.member_of-member.ensures c.in_ok-insert.ensures.updates.0)
    (subst (λ (order : Order). sorted.Updates order c.self.inside.pairs c.insert-2.new.self c.args.at true) pairs_compared c.in-Ok.ensures.updates).0
    (subst (λ (order : Order). sorted.IsOrdered order c.insert-2.new.self) pairs_compared c.in-Ok.ensures.ordered)

pub invariant_of-self-in_default : goal.invariant_of-self-in_default
invariant_of-self-in_default c =
    let none = filter_at-none c.self.inside.by_group c.self.inside.pairs c.args.self.now c.args.at c.self.invariant c.self.view_is c.requires.absent in
    let put = IsSet-updated _ c.self.inside.by_group c.insert.new.self c.args.at c.member_of-member.result (Some c.args.stored) members_compared c.member_of-member.ensures c.in_ok-insert.ensures.updates.0 in
    let taken = IsSet-updated _ c.insert.new.self c.remove.new.self c.args.at c.member_of-member.result None members_compared c.member_of-member.ensures c.remove.ensures.updates.0 in
    HaveSamePairs-same c.self.inside.by_group c.remove.new.self c.self.inside.pairs c.insert-2.new.self c.self.invariant
    (undone c.self.inside.by_group c.insert.new.self c.remove.new.self c.args.at c.args.stored none put taken) c.in_default.ensures.err

pub returns-in_default-clause-err : goal.returns-in_default-clause-err
returns-in_default-clause-err c =
    let none = filter_at-none c.self.inside.by_group c.self.inside.pairs c.args.self.now c.args.at c.self.invariant c.self.view_is c.requires.absent in
    let put = IsSet-updated _ c.self.inside.by_group c.insert.new.self c.args.at c.member_of-member.result (Some c.args.stored) members_compared c.member_of-member.ensures c.in_ok-insert.ensures.updates.0 in
    let taken = IsSet-updated _ c.insert.new.self c.remove.new.self c.args.at c.member_of-member.result None members_compared c.member_of-member.ensures c.remove.ensures.updates.0 in
    same_filters c.self.inside.by_group c.remove.new.self c.self.inside.pairs c.insert-2.new.self c.self.invariant (invariant_of-self-in_default c)
    (undone c.self.inside.by_group c.insert.new.self c.remove.new.self c.args.at c.args.stored none put taken) ∙ c.self.view_is

pub returns-clause-set : goal.returns-clause-set
returns-clause-set c =
    set_as c.self.inside.by_group c.insert.new.self c.self.inside.pairs c.insert-2.new.self c.args.self.now c.args.at (Some c.args.stored) c.self.invariant (invariant_of-self-in-Ok c)
    (IsSet-updated _ c.self.inside.by_group c.insert.new.self c.args.at c.member_of-member.result (Some c.args.stored) members_compared c.member_of-member.ensures c.in_ok-insert.ensures.updates.0) c.self.view_is
