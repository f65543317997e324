use Rattle.std.{proofs.{Common.{not, ◌&&◌, List, true, false, ◌++◌, ◌∷◌, [], take, sym, ap, ◌∙◌}, lemmas.List.{take_more}}, specs.BTreeSet.{BTreeSet, contains}}
use Rattle.endpoint_membership.{specs.{Membership.{Membership}, Parts.{is_renewal_in, is_stored, renewal_order}, declared.keys.LastRenewal.{LastRenewal}}, proofs.{RenewedTogether.{one_more_out, renewals_updated, taken_out}, parts.renew.take_renewals.Goals.{then-not-is_stored, else-not-is_stored}}}
use Rattle.endpoint_membership.proofs.parts.renew.take_renewals.Goals as goal

pub loop-membership-preserved : goal.loop-membership-preserved
loop-membership-preserved c renewal =
    let k = c.loop-membership.membership-index in
    let rows = c.args.memberships.now in
    let item = c.membership-item.result in
    let key = c.renewal_of-renewal.result in
    let stored = is_stored c.args.filters.now renewal in
    let old = contains renewal_order c.args.renewals.now renewal in
    let more = take_more rows k item c.loop-membership-test.true ∙ ap (λ (next : Membership). take k rows ++ next ∷ []) (sym c.membership-item.is) in
    one_more_out (take k rows) item key renewal stored old _ _ c.renewal_of-renewal.ensures (c.loop-membership.invariant renewal)
    (elim c.if-not-is_stored.branch [
      | then-not-is_stored w ↦ taken_out c.args.filters.now key renewal false _ _ (sym c.is_stored.ensures ∙ w.if-not-is_stored.true)
          (ap (λ (renewals : BTreeSet LastRenewal). contains renewal_order renewals renewal) w.renewals-is ∙ renewals_updated c.loop-membership.renewals w.remove.new.self key false w.remove.ensures.updates renewal)
      | else-not-is_stored w ↦ taken_out c.args.filters.now key renewal true _ _ (sym c.is_stored.ensures ∙ w.if-not-is_stored.false)
          (ap (λ (renewals : BTreeSet LastRenewal). contains renewal_order renewals renewal) w.renewals-is)
    ])
    ∙ ap (λ (done : List Membership). old && not (is_renewal_in done renewal && not stored)) (sym more)
