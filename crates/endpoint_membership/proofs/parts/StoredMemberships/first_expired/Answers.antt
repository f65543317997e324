use Rattle.std.{proofs.{Common.{◌≡◌, None, IsSome, List, sym, subst, filter, true, ◌∙◌, arith}, lemmas.Bool.Decides.{nat_tests}}, specs.declared.cmp.Ordering.{Ordering}}
use Rattle.std.specs.BTreeSet as sorted
use Rattle.endpoint_membership.{specs.{Membership.{Membership, is_fresh}, Memberships.{membership_in}, Stored.{only}, declared.keys.LastRenewal.{LastRenewal}}, proofs.{Expiry.{IfNone-from, all_fresh, expired, fresh_after, fresh_none}, PartOrders.{renewals_compared}}}
use Rattle.endpoint_membership.proofs.parts.StoredMemberships.first_expired.Goals as goal

pub returns-in_err-first-clause-none : goal.returns-in_err-first-clause-none
returns-in_err-first-clause-none c =
    let inside = c.self.inside in
    IfNone-from c.from_residual.result (subst (λ (rows : List Membership). filter (is_fresh c.args.lifetime_ms c.args.moment) rows ≡ rows) c.self.view_is
    (all_fresh c.args.lifetime_ms c.args.moment inside.filters inside.renewals c.self.invariant.ascends c.self.invariant.renewed
    (λ renewal has. fresh_none c.args.lifetime_ms c.args.moment inside.renewals renewal c.in_err-first.ensures.variant has)))

pub returns-then-is_in_time-clause-none : goal.returns-then-is_in_time-clause-none
returns-then-is_in_time-clause-none c =
    let inside = c.self.inside in
    let passes = sym c.is_in_time.ensures ∙ c.if-is_in_time.true in
    subst (λ (rows : List Membership). filter (is_fresh c.args.lifetime_ms c.args.moment) rows ≡ rows) c.self.view_is
    (all_fresh c.args.lifetime_ms c.args.moment inside.filters inside.renewals c.self.invariant.ascends c.self.invariant.renewed
    (λ renewal has. fresh_after c.args.lifetime_ms c.args.moment _ inside.renewals c.in_ok-first.first.now renewal renewals_compared c.in_ok-first.ensures.least (grind (arith, nat_tests)) has))

pub returns-clause-some : goal.returns-clause-some
returns-clause-some c =
    let inside = c.self.inside in
    let first = c.in_ok-first.first.now in
    let fails = sym c.is_in_time.ensures ∙ c.if-is_in_time.false in
    subst (λ (rows : List Membership). IsSome (membership_in rows first.at) × (only (is_fresh c.args.lifetime_ms c.args.moment) (membership_in rows first.at) ≡ None)) c.self.view_is
    (expired c.args.lifetime_ms c.args.moment inside.filters first
    (sym (c.self.invariant.renewed first) ∙ subst (λ (order : LastRenewal → LastRenewal → Ordering). sorted.contains order inside.renewals first ≡ true) renewals_compared c.in_ok-first.ensures.member) (grind (arith, nat_tests)))
