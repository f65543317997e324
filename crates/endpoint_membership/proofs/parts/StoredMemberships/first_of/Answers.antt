use Rattle.std.proofs.Common.{◌≡◌, List, ◌∷◌, IfNone, IfSome, IsSome, ap, sym, subst, filter, ◌∙◌}
use Rattle.amt_values.specs.{Ascending.{has}}
use Rattle.endpoint_membership.{specs.{EndpointGroup.{EndpointGroup, endpoint_group_order}, Membership.{Membership}, Memberships.{membership_in}, Stored.{is_of_another}}, proofs.{EndpointRange.{first_found, none_found, none_of}, Expiry.{IfNone-from}, OwnFilters.{pair}, PartOrders.{pairs_compared}, MembershipIn.{IsAscending-pairs}}}
use Rattle.endpoint_membership.proofs.parts.StoredMemberships.first_of.Goals as goal

pub returns-in_err-first-clause-none : goal.returns-in_err-first-clause-none
returns-in_err-first-clause-none c =
    let rows = c.self.inside.filters in
    IfNone-from c.from_residual.result (subst (λ (all : List Membership). filter (is_of_another c.args.endpoint.now) all ≡ all) c.self.view_is
    (none_of _ c.args.endpoint.now rows c.pairs.result.now c.range.result pairs_compared c.pairs.ensures.keys (c.range.ensures.between tt) c.self.invariant.ascends
    (λ group. ap (λ (keys : List EndpointGroup). has endpoint_group_order keys (pair c.args.endpoint.now group)) c.in_err-first.ensures.steps.0)))

pub returns-clause-some : goal.returns-clause-some
returns-clause-some c =
    let rest = c.next.new.self in
    let is = c.in_ok-first.ensures.steps ∙ ap (λ (first : EndpointGroup). first ∷ rest) (sym c.first.view_is) in
    subst (λ (rows : List Membership). IfSome c.then_some.result (λ at. (at.endpoint ≡ c.args.endpoint.now) × IsSome (membership_in rows at))) c.self.view_is
    (first_found _ c.args.endpoint.now c.self.inside.filters c.pairs.result.now c.range.result pairs_compared c.pairs.ensures.keys (c.range.ensures.between tt) _ rest c.eq.result c.then_some.result is c.eq.ensures c.then_some.ensures)

pub returns-clause-none : goal.returns-clause-none
returns-clause-none c =
    let inside = c.self.inside.filters in
    let rest = c.next.new.self in
    let is = c.in_ok-first.ensures.steps ∙ ap (λ (first : EndpointGroup). first ∷ rest) (sym c.first.view_is) in
    subst (λ (rows : List Membership). IfNone c.then_some.result (filter (is_of_another c.args.endpoint.now) rows ≡ rows)) c.self.view_is
    (none_found _ c.args.endpoint.now inside c.pairs.result.now c.range.result pairs_compared c.pairs.ensures.keys (c.range.ensures.between tt) _ rest c.eq.result c.then_some.result is c.eq.ensures c.then_some.ensures
    c.self.invariant.ascends (IsAscending-pairs inside c.self.invariant.ascends))
