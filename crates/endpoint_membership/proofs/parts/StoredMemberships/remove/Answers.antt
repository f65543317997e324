use Rattle.std.{proofs.Common.{List, None, false, refl, sym, subst}, specs.{BTreeMap.{get}, declared.cmp.Ordering.{Ordering}}}
use Rattle.std.specs.BTreeSet as sorted
use Rattle.amt_values.specs.Order.{endpoint_order}
use Rattle.endpoint_membership.{specs.{EndpointGroup.{EndpointGroup}, Filters.{IsSetAt}, Membership.{Membership}, Parts.{HasNumber, one_less, renewal_order}, declared.keys.LastRenewal.{LastRenewal}}, proofs.{OneMembership.{AreAgreed-less, AreAgreed-same}, PartOrders.{renewal_at, renewals_compared}, SetAt.{none_taken}}}
use Rattle.endpoint_membership.proofs.parts.StoredMemberships.remove.Goals as goal

abbrev Order : Type 0
Order = LastRenewal → LastRenewal → Ordering

pub returns-in_default : goal.returns-in_default
returns-in_default c = subst (λ (rows : List Membership). IsSetAt c.args.at.now None rows c.remove.new.self) c.self.view_is c.remove.ensures.set

pub invariant_of-self : goal.invariant_of-self
invariant_of-self c =
    AreAgreed-same c.self.inside.filters c.remove.new.self c.self.inside.renewals c.self.inside.renewals c.self.inside.counts c.self.inside.counts c.self.invariant
    (none_taken c.self.inside.filters c.remove.new.self c.args.at.now (sym c.in_default.ensures.value) c.remove.ensures.set) (λ renewal. refl) refl

pub invariant_of-self-2 : goal.invariant_of-self-2
invariant_of-self-2 c =
    let stored = c.in-Some.stored in
    let inside : EndpointGroup = record { endpoint = c.at.inside.endpoint; group = c.at.inside.group } in
    AreAgreed-less c.self.inside.filters c.remove.new.self c.self.inside.renewals c.remove-2.new.self c.self.inside.counts c.count_less.new.counts c.self.invariant
    c.args.at.now stored (sym c.in-Some.ensures.value) c.remove.ensures.set
    (subst (λ (at : EndpointGroup). sorted.Updates renewal_order c.self.inside.renewals c.remove-2.new.self (renewal_at stored.renewed at) false) c.at.view_is
    (subst (λ (order : Order). sorted.Updates order c.self.inside.renewals c.remove-2.new.self (renewal_at stored.renewed inside) false) renewals_compared c.remove-2.ensures.updates))
    (subst (λ (at : EndpointGroup). HasNumber at.endpoint (one_less (get endpoint_order c.self.inside.counts at.endpoint)) c.self.inside.counts c.count_less.new.counts) c.at.view_is c.count_less.ensures)

pub returns : goal.returns
returns c = subst (λ (rows : List Membership). IsSetAt c.args.at.now None rows c.remove.new.self) c.self.view_is c.remove.ensures.set
