use Rattle.std.{proofs.{Common.{◌≡◌, Bool, List, Some, ◌+◌, ◌++◌, ◌∷◌, [], filter, map, if◌then◌else◌, sym, ap, subst, ◌∙◌, arith}, lemmas.List.{length_push}}, specs.Map.Iter.{deref}}
use Rattle.amt_values.specs.{EndpointValue.{EndpointValue}, Ascending.{IsAscending}}
use Rattle.endpoint_membership.{specs.{EndpointGroup.{EndpointGroup}, Limits.{live_count}, Membership.{Membership, endpoint_group_of, membership_order}, Stored.{ends_with, is_counted}}, proofs.{MembershipIn.{all_found}, PairsWalked.{IsCounted, IsCounted-more, IsCounted-same, all_seen, pairs_walked, seen_memberships}}}
use Rattle.endpoint_membership.proofs.parts.StoredMemberships.count_fresh.Goals as goal

pub loop-at-preserved-then-counts_at : goal.loop-at-preserved-then-counts_at
loop-at-preserved-then-counts_at c =
    let test = is_counted c.args.lifetime_ms c.args.moment c.args.besides.now in
    let rows = c.args.self.now in
    let seen = c.loop-at.yielded in
    let pairs = map endpoint_group_of rows in
    let whole = pairs_walked pairs c.pairs-at-items.result.now.keys c.into_iter-at-iterator.result c.loop-at.at-iterator seen (c.pairs-at-items.ensures.keys ∙ ap (map endpoint_group_of) c.self.view_is) c.into_iter-at-iterator.ensures.into_iter_gives.0 c.loop-at.yielded_by
    ∙ ap (λ (rest : List EndpointGroup). map deref seen ++ rest) c.in-Some.ensures.steps in
    let ascends = subst (IsAscending membership_order) c.self.view_is c.self.invariant.ascends in
    let here : c.at.inside.endpoint ≡ c.in-Some.at.now.endpoint = ap (λ (at : EndpointGroup). at.endpoint) c.at.view_is in
    let ends = c.ends_with.ensures ∙ ap (ends_with c.loop-at.last) here in
    let step = c.one_unless-count.ensures.value ∙ ap (λ (same : Bool). if same then 0 else 1) ends in
    let more = IsCounted-more rows pairs c.next.new.self seen c.in-Some.at test c.loop-at.count c.one_unless-count.result c.loop-at.last ascends
    (all_found rows ascends) whole (sym c.counts_at.ensures ∙ c.if-counts_at.true) c.loop-at.invariant.counted step in
    record {
      counted = subst (λ (endpoint : EndpointValue). IsCounted test (seen_memberships rows (seen ++ c.in-Some.at ∷ [])) (c.loop-at.count + c.one_unless-count.result) (Some endpoint)) (sym here) more;
      bounded = omega (arith, length_push seen c.in-Some.at);
    }

pub loop-at-preserved : goal.loop-at-preserved
loop-at-preserved c = record {
  counted = IsCounted-same c.args.self.now c.loop-at.yielded c.in-Some.at (is_counted c.args.lifetime_ms c.args.moment c.args.besides.now) c.loop-at.count c.loop-at.last
      (sym c.counts_at.ensures ∙ c.if-counts_at.false) c.loop-at.invariant.counted;
  bounded = omega (arith, length_push c.loop-at.yielded c.in-Some.at);
}

pub returns : goal.returns
returns c =
    c.loop-at.invariant.counted.count
    ∙ ap (λ (rows : List Membership). live_count (filter (is_counted c.args.lifetime_ms c.args.moment c.args.besides.now) rows))
    (all_seen c.args.self.now c.pairs-at-items.result.now.keys c.into_iter-at-iterator.result c.loop-at.at-iterator c.loop-at.yielded (subst (IsAscending membership_order) c.self.view_is c.self.invariant.ascends)
    (c.pairs-at-items.ensures.keys ∙ ap (map endpoint_group_of) c.self.view_is) c.into_iter-at-iterator.ensures.into_iter_gives.0 c.loop-at.yielded_by c.in-None.ensures.steps.0)
