use Rattle.std.{proofs.{Common.{◌||◌, List, true, ◌++◌, ◌∷◌, [], take, sym, ap, ◌∙◌}, lemmas.List.{take_more}}, specs.BTreeSet.{contains}}
use Rattle.endpoint_membership.{specs.{Membership.{Membership}, Parts.{is_renewal_in, renewal_order}, declared.keys.LastRenewal.{LastRenewal}}, proofs.RenewedTogether.{one_more_in, refused_in, renewals_updated}}
use Rattle.endpoint_membership.proofs.parts.renew.put_renewals.Goals as goal

pub loop-membership-preserved : goal.loop-membership-preserved
loop-membership-preserved c renewal =
    let k = c.loop-membership.membership-index in
    let rows = c.args.memberships.now in
    let item = c.membership-item.result in
    let old = contains renewal_order c.args.renewals.now renewal in
    let more = take_more rows k item c.loop-membership-test.true ∙ ap (λ (next : Membership). take k rows ++ next ∷ []) (sym c.membership-item.is) in
    one_more_in (take k rows) item c.renewal_of.result renewal old _ _ c.renewal_of.ensures (c.loop-membership.invariant renewal)
    (renewals_updated c.loop-membership.renewals c.insert.new.self c.renewal_of.result true c.in-Ok.ensures.updates renewal)
    ∙ ap (λ (done : List Membership). is_renewal_in done renewal || old) (sym more)

pub returns-in-Err-clause-err : goal.returns-in-Err-clause-err
returns-in-Err-clause-err c renewal =
    refused_in c.loop-membership.membership-index c.args.memberships.now renewal (contains renewal_order c.args.renewals.now renewal) _ (ap (λ (keys : List LastRenewal). contains renewal_order (record { keys = keys }) renewal) c.in-Err.ensures.err ∙ c.loop-membership.invariant renewal)
