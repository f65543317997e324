use Rattle.std.{proofs.{Common.{◌≡◌, false, not, List, ◌++◌, map, sym, ap, subst, ◌∙◌}, lemmas.Map.Iter.{rest_so_far}}, specs.{List.{AllByRecursion}, Map.Iter.{deref}, declared.cmp.Ordering.{Ordering}}}
use Rattle.std.specs.BTreeSet as sorted
use Rattle.amt_values.specs.Ascending.{has}
use Rattle.endpoint_membership.{specs.{EndpointGroup.{EndpointGroup, endpoint_group_order}, FiltersAfter.{is_expired}, Membership.{Membership}, Memberships.{membership_in}, declared.keys.LastRenewal.{LastRenewal}}, proofs.{ExpiredPairs.{is_late, none_late, pairs_expired}, PartOrders.{renewals_compared}, parts.StoredMemberships.expired_pairs.Goals.{in-None, in-Some+then-is_in_time}}}
use Rattle.endpoint_membership.proofs.parts.StoredMemberships.expired_pairs.Goals as goal

pub returns : goal.returns
returns c at =
    let lifetime = c.args.lifetime_ms in
    let moment = c.args.moment in
    let renewals = c.self.inside.renewals in
    let seen = map deref c.loop-renewal.yielded in
    let whole = sym c.into_iter-renewal-iterator.ensures.into_iter_gives.0 ∙ rest_so_far deref c.loop-renewal.yielded c.into_iter-renewal-iterator.result c.loop-renewal.renewal-iterator c.loop-renewal.yielded_by in
    let early : AllByRecursion (λ renewal. is_late lifetime moment renewal ≡ false) c.loop-renewal.renewal-iterator = elim c.match-next.branch [
      | in-None w ↦ subst (AllByRecursion (λ (renewal : LastRenewal). is_late lifetime moment renewal ≡ false)) (sym w.in-None.ensures.steps.0) tt
      | in-Some+then-is_in_time w ↦ subst (AllByRecursion (λ (renewal : LastRenewal). is_late lifetime moment renewal ≡ false)) (sym w.in-Some.ensures.steps)
          (none_late lifetime moment renewals.keys seen c.next.new.self w.in-Some.renewal.now
          (subst (λ (by : LastRenewal → LastRenewal → Ordering). sorted.IsOrdered by renewals) renewals_compared c.into_iter-renewal-iterator.ensures.into_iter_gives.4)
          (whole ∙ ap (λ (rest : List LastRenewal). seen ++ rest) w.in-Some.ensures.steps) (ap not (sym w.is_in_time.ensures ∙ w.if-is_in_time.true)))
    ] in
    ap (λ (pairs : List EndpointGroup). has endpoint_group_order pairs at) c.loop-renewal.invariant.pairs
    ∙ pairs_expired lifetime moment c.self.inside.filters renewals seen c.loop-renewal.renewal-iterator c.self.invariant.renewed whole c.loop-renewal.invariant.late early at
    ∙ ap (λ (rows : List Membership). is_expired lifetime moment (membership_in rows at)) c.self.view_is
