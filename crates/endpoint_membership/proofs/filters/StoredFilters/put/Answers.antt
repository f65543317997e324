use Rattle.std.proofs.Common.{List, Some, is_some, map, sym, ap, subst, true, ◌≡◌, ◌∙◌}
use Rattle.endpoint_membership.{specs.{Filters.{membership_with}, Membership.{Membership, endpoint_group_of}, Memberships.{membership_in}}, proofs.{KeptFilters.{HaveSamePairs-put, IsSet-updated, found_as, pairs-kept, set_as}, PartOrders.{members_compared}}}
use Rattle.endpoint_membership.proofs.filters.StoredFilters.put.Goals as goal

pub unreachable-requires : goal.unreachable-requires
unreachable-requires c =
    let found = found_as _ c.self.inside.by_group c.self.inside.pairs c.args.self.now c.args.at c.member_of.result members_compared c.member_of.ensures c.self.invariant c.self.view_is in
    let wrong = sym (ap is_some (sym found ∙ ap (membership_with c.args.at) c.in-Err.ensures.absent)) ∙ c.requires in cc

pub invariant_of-self : goal.invariant_of-self
invariant_of-self c =
    HaveSamePairs-put c.self.inside.by_group c.insert.new.self c.self.inside.pairs c.args.at c.args.stored c.self.invariant
    (IsSet-updated _ c.self.inside.by_group c.insert.new.self c.args.at c.member_of.result (Some c.args.stored) members_compared c.member_of.ensures c.in-Ok.ensures.updates.0)
    (subst (λ (rows : List Membership). is_some (membership_in rows c.args.at) ≡ true) (sym c.self.view_is) c.requires)

pub returns-clause-old : goal.returns-clause-old
returns-clause-old c =
    ap (membership_with c.args.at) c.in-Ok.ensures.old ∙ found_as _ c.self.inside.by_group c.self.inside.pairs c.args.self.now c.args.at c.member_of.result members_compared c.member_of.ensures c.self.invariant c.self.view_is

pub returns-clause-set : goal.returns-clause-set
returns-clause-set c =
    set_as c.self.inside.by_group c.insert.new.self c.self.inside.pairs c.self.inside.pairs c.args.self.now c.args.at (Some c.args.stored) c.self.invariant (invariant_of-self c)
    (IsSet-updated _ c.self.inside.by_group c.insert.new.self c.args.at c.member_of.result (Some c.args.stored) members_compared c.member_of.ensures c.in-Ok.ensures.updates.0) c.self.view_is

pub returns-clause-pairs : goal.returns-clause-pairs
returns-clause-pairs c =
    pairs-kept c.insert.new.self c.self.inside.pairs (invariant_of-self c) ∙ sym (pairs-kept c.self.inside.by_group c.self.inside.pairs c.self.invariant) ∙ ap (map endpoint_group_of) c.self.view_is
