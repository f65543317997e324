use Rattle.std.{proofs.Common.{◌≡◌, List, None, Some, ap, subst, sym, true, false, ◌∙◌}, specs.declared.cmp.Ordering.{Ordering}}
use Rattle.std.specs.BTreeSet as sorted
use Rattle.endpoint_membership.{specs.{Filters.{IsSetAt, stored_membership}, Membership.{Membership}, Memberships.{membership_in}, Parts.{is_renewed_at}, declared.keys.LastRenewal.{LastRenewal}}, proofs.{OneMembership.{AreAgreed-more, AreAgreed-same, undone-key}, PartOrders.{renewal_at, renewal_order-total, renewals_compared}}}
use Rattle.endpoint_membership.proofs.parts.StoredMemberships.insert.Goals as goal

abbrev Order : Type 0
Order = LastRenewal → LastRenewal → Ordering

pub insert_counted-requires-clause-absent : goal.insert_counted-requires-clause-absent
insert_counted-requires-clause-absent c = subst (λ (rows : List Membership). membership_in rows c.args.at ≡ None) (sym c.self.view_is) c.requires.absent

pub invariant_of-self-in-Ok : goal.invariant_of-self-in-Ok
invariant_of-self-in-Ok c =
    AreAgreed-more c.self.inside.filters c.insert_counted.new.filters c.self.inside.renewals c.insert.new.self c.self.inside.counts c.insert_counted.new.counts c.self.invariant
    c.args.at c.args.stored (subst (λ (rows : List Membership). membership_in rows c.args.at ≡ None) (sym c.self.view_is) c.requires.absent) c.in-Ok.ensures.filters
    (subst (λ (order : Order). sorted.Updates order c.self.inside.renewals c.insert.new.self (renewal_at c.args.stored.renewed c.args.at) true) renewals_compared c.in_ok-insert.ensures.updates) c.in-Ok.ensures.counts

pub invariant_of-self-in_default : goal.invariant_of-self-in_default
invariant_of-self-in_default c =
    let none = subst (λ (rows : List Membership). membership_in rows c.args.at ≡ None) (sym c.self.view_is) c.requires.absent in
    let renewal = renewal_at c.args.stored.renewed c.args.at in
    AreAgreed-same c.self.inside.filters c.insert_counted.new.filters c.self.inside.renewals c.remove.new.self c.self.inside.counts c.insert_counted.new.counts
    c.self.invariant c.in_default.ensures.err_filters
    (undone-key renewal_order-total c.self.inside.renewals c.insert.new.self c.remove.new.self renewal (c.self.invariant.renewed renewal ∙ ap (is_renewed_at c.args.stored.renewed) none)
    (subst (λ (order : Order). sorted.Updates order c.self.inside.renewals c.insert.new.self renewal true) renewals_compared c.in_ok-insert.ensures.updates)
    (subst (λ (order : Order). sorted.Updates order c.insert.new.self c.remove.new.self renewal false) renewals_compared c.remove.ensures.updates))
    c.in_default.ensures.err_counts

pub returns-clause-set : goal.returns-clause-set
returns-clause-set c = subst (λ (rows : List Membership). IsSetAt c.args.at (Some (stored_membership (c.args.at, c.args.stored))) rows c.insert_counted.new.filters) c.self.view_is c.in-Ok.ensures.filters
