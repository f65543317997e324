use Rattle.std.{proofs.{Common.{false, sym, ap, ◌∙◌}, lemmas.Bool.{eqb-false, eqb-true, not-false, not-true}}, specs.BTreeSet.{contains}}
use Rattle.endpoint_membership.{specs.{Filters.{stored_membership}, Parts.{renewal_order}, declared.{keys.LastRenewal.{LastRenewal}, stored.StoredFilter.{StoredFilter}}}, proofs.{PartOrders.{renewal_at}, RenewedTogether.{old_renewal_out, renewals_updated, same_renewal_stays}}}
use Rattle.endpoint_membership.proofs.parts.renew.put_membership.Goals as goal

pub returns-then-ne-clause-renewals : goal.returns-then-ne-clause-renewals
returns-then-ne-clause-renewals c renewal =
    let key = c.renewal_of-renewal.result.at in
    let was = stored_membership (key, c.in-Some.old) in
    let now = stored_membership (key, c.into_stored_filter.result) in
    let moment = ap (λ (stored : StoredFilter). stored.renewed) c.into_stored_filter.ensures ∙ sym (ap (λ (one : LastRenewal). one.renewed) c.renewal_of-renewal.ensures) in
    let apart = eqb-false was.renewed c.renewal_of-renewal.result.renewed (not-true _ (sym c.ne.ensures ∙ c.if-ne.true)) in
    old_renewal_out c.args.filters.now c.put.new.self key was now renewal (contains renewal_order c.args.renewals.now renewal) _
    (sym c.in-Some.ensures.old) c.put.ensures.set (λ same. apart (same ∙ moment))
    (renewals_updated c.args.renewals.now c.remove.new.self (renewal_at was.renewed key) false c.remove.ensures.updates renewal)

pub returns-in-Some-clause-renewals : goal.returns-in-Some-clause-renewals
returns-in-Some-clause-renewals c renewal =
    let key = c.renewal_of-renewal.result.at in
    let was = stored_membership (key, c.in-Some.old) in
    let now = stored_membership (key, c.into_stored_filter.result) in
    let moment = ap (λ (stored : StoredFilter). stored.renewed) c.into_stored_filter.ensures ∙ sym (ap (λ (one : LastRenewal). one.renewed) c.renewal_of-renewal.ensures) in
    let same = eqb-true was.renewed c.renewal_of-renewal.result.renewed (not-false _ (sym c.ne.ensures ∙ c.if-ne.false)) in
    same_renewal_stays c.args.filters.now c.put.new.self key was now renewal (contains renewal_order c.args.renewals.now renewal)
    (sym c.in-Some.ensures.old) c.put.ensures.set (same ∙ sym moment)
