use Rattle.std.{proofs.Common.{◌≡◌, true, false, List, map, ◌++◌, is_some, sym, ap, ◌∙◌}, specs.Map.Iter.{deref}}
use Rattle.amt_values.specs.Ascending.{has}
use Rattle.endpoint_membership.{specs.{EndpointGroup.{EndpointGroup, endpoint_group_order, same_endpoint}, Membership.{Membership, endpoint_group_of}, Memberships.{membership_in}}, proofs.{MembershipIn.{IsAscending-pairs}, OwnFilters.{none_past, pair, same_endpoint-ne, seen_pair-all, seen_pair-of, walked}, PartOrders.{pairs_compared}, parts.StoredMemberships.pairs_of.Goals.{in-None, in-Some+then-ne}}}
use Rattle.endpoint_membership.proofs.parts.StoredMemberships.pairs_of.Goals as goal

pub returns-clause-of : goal.returns-clause-of
returns-clause-of c at there = seen_pair-of c.args.endpoint.now c.loop-at.pairs.items at c.loop-at.invariant.of there

pub returns-clause-all : goal.returns-clause-all
returns-clause-all c group =
    let endpoint = c.args.endpoint.now in
    let rows = c.self.inside.filters in
    let own = pair endpoint group in
    let seen = map deref c.loop-at.yielded in
    let walk = walked _ endpoint rows c.pairs.result.now _ _ _ c.loop-at.yielded pairs_compared c.pairs.ensures.keys (c.range-at-items.ensures.between tt) c.into_iter-at-iterator.ensures.into_iter_gives c.loop-at.yielded_by in
    let none : has endpoint_group_order c.loop-at.at-iterator own ≡ false = elim c.match-next.branch [
      | in-None w ↦ ap (λ (rest : List EndpointGroup). has endpoint_group_order rest own) w.in-None.ensures.steps.0
      | in-Some+then-ne w ↦ ap (λ (rest : List EndpointGroup). has endpoint_group_order rest own) w.in-Some.ensures.steps
          ∙ none_past endpoint group (map endpoint_group_of rows) seen w.in-Some.at.now c.next.new.self (IsAscending-pairs rows c.self.invariant.ascends) (walk ∙ ap (λ (rest : List EndpointGroup). seen ++ rest) w.in-Some.ensures.steps)
          (ap (λ (one : EndpointGroup). same_endpoint one.endpoint endpoint) (sym w.at.view_is) ∙ same_endpoint-ne w.at.inside.endpoint endpoint w.ne.result true w.ne.ensures w.if-ne.true)
    ] in
    ap (λ (pairs : List EndpointGroup). has endpoint_group_order pairs own) c.loop-at.invariant.pairs
    ∙ seen_pair-all endpoint rows seen c.loop-at.at-iterator group walk none ∙ ap (λ (all : List Membership). is_some (membership_in all own)) c.self.view_is
