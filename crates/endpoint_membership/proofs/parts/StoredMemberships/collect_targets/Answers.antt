use Rattle.std.{proofs.{Common.{true, false, List, ◌++◌, length, sym, ap, subst, ◌∙◌, arith}, lemmas.List.{append-nil}}, specs.{BTreeMap.{IsOrdered, keys}, Map.{keys_of}, declared.cmp.Ordering.{Ordering}}}
use Rattle.amt_values.specs.EndpointValue.{EndpointValue}
use Rattle.endpoint_membership.{specs.{Stored.{AreTargets}, declared.{keys.GroupMember.{GroupMember}, stored.StoredFilter.{StoredFilter}}}, proofs.{GroupMembers.{AreByGroup, AreTargets-table, decided, lets_in-kept, next_found, seen_members, targets_among-end, targets_among-more, targets_among-room, targets_among-stop, walked}, PartOrders.{members_compared}}}
use Rattle.endpoint_membership.proofs.parts.StoredMemberships.collect_targets.Goals as goal

pub push-requires : goal.push-requires
push-requires c =
    let lifetime = c.args.lifetime_ms in
    let moment = c.args.moment in
    let group = c.args.group.now in
    let source = c.args.source.now in
    let rows = c.args.self.now in
    let kept = c.by_group.result.now in
    let by_group = subst (AreByGroup kept) c.self.view_is c.by_group.ensures in
    let member = c.in-Some.member.now in
    let walk = walked _ group c.named.result kept _ _ _ c.loop-member.yielded members_compared c.named.ensures (c.range-member-items.ensures.between tt) c.into_iter-member-iterator.ensures.into_iter_gives c.loop-member.yielded_by in
    let found = next_found _ _ kept _ _ _ _ _ _ (c.in-Some.member, c.in-Some.stored) members_compared (c.range-member-items.ensures.in_range tt) c.into_iter-member-iterator.ensures.into_iter_gives c.loop-member.yielded_by
    c.in-Some.is c.next.ensures.steps in
    let same = sym c.is_of.ensures ∙ c.if-not-is_of.false in
    let lets = sym (lets_in-kept lifetime moment group source rows kept member c.in-Some.stored.now by_group found same) ∙ sym c.lets_in.ensures in
    let before = seen_members c.loop-member.yielded in
    let room = targets_among-room lifetime moment group source rows (keys kept) before (keys_of c.next.new.self) member
    (AreTargets-table lifetime moment group source rows _ kept members_compared by_group c.range-member-items.ensures.ordered)
    (walk ∙ ap (λ (rest : List (GroupMember × StoredFilter)). before ++ keys_of rest) c.in-Some.ensures.steps) (decided lifetime moment group source rows member same ∙ lets ∙ c.if-lets_in.true) in
    let so_far = ap (λ (endpoints : List EndpointValue). length endpoints) c.loop-member.invariant.endpoints in
    let same_room = c.loop-member.invariant.room in
    let cleared = c.clear.ensures.room in
    let asked = c.requires.room in
    omega arith

pub loop-member-preserved-then-lets_in : goal.loop-member-preserved-then-lets_in
loop-member-preserved-then-lets_in c =
    let group = c.args.group.now in
    let rows = c.args.self.now in
    let kept = c.by_group.result.now in
    let by_group = subst (AreByGroup kept) c.self.view_is c.by_group.ensures in
    let found = next_found _ _ kept _ _ _ _ _ _ (c.in-Some.member, c.in-Some.stored) members_compared (c.range-member-items.ensures.in_range tt) c.into_iter-member-iterator.ensures.into_iter_gives c.loop-member.yielded_by
    c.in-Some.is c.next.ensures.steps in
    let same = sym c.is_of.ensures ∙ c.if-not-is_of.false in
    let lets = sym (lets_in-kept c.args.lifetime_ms c.args.moment group c.args.source.now rows kept c.in-Some.member.now c.in-Some.stored.now by_group found same) ∙ sym c.lets_in.ensures in record {
      endpoints = targets_among-more c.args.lifetime_ms c.args.moment group c.args.source.now rows c.loop-member.yielded (c.in-Some.member, c.in-Some.stored) _ _ true same (lets ∙ c.if-lets_in.true) c.loop-member.invariant.endpoints c.push.ensures.endpoints;
      room = c.push.ensures.room ∙ c.loop-member.invariant.room;
    }

pub loop-member-preserved : goal.loop-member-preserved
loop-member-preserved c =
    let group = c.args.group.now in
    let rows = c.args.self.now in
    let kept = c.by_group.result.now in
    let by_group = subst (AreByGroup kept) c.self.view_is c.by_group.ensures in
    let found = next_found _ _ kept _ _ _ _ _ _ (c.in-Some.member, c.in-Some.stored) members_compared (c.range-member-items.ensures.in_range tt) c.into_iter-member-iterator.ensures.into_iter_gives c.loop-member.yielded_by
    c.in-Some.is c.next.ensures.steps in
    let same = sym c.is_of.ensures ∙ c.if-not-is_of.false in
    let lets = sym (lets_in-kept c.args.lifetime_ms c.args.moment group c.args.source.now rows kept c.in-Some.member.now c.in-Some.stored.now by_group found same) ∙ sym c.lets_in.ensures in record {
      endpoints = targets_among-more c.args.lifetime_ms c.args.moment group c.args.source.now rows c.loop-member.yielded (c.in-Some.member, c.in-Some.stored) _ _ false same (lets ∙ c.if-lets_in.false) c.loop-member.invariant.endpoints
          (sym (append-nil c.loop-member.out.endpoints));
      room = c.loop-member.invariant.room;
    }

pub returns-in-None-clause-endpoints : goal.returns-in-None-clause-endpoints
returns-in-None-clause-endpoints c =
    let group = c.args.group.now in
    let rows = c.args.self.now in
    let kept = c.by_group.result.now in
    let by_group = subst (AreByGroup kept) c.self.view_is c.by_group.ensures in
    let walk = walked _ group c.named.result kept _ _ _ c.loop-member.yielded members_compared c.named.ensures (c.range-member-items.ensures.between tt) c.into_iter-member-iterator.ensures.into_iter_gives c.loop-member.yielded_by in
    subst (AreTargets c.args.lifetime_ms c.args.moment group c.args.source.now rows) (sym (c.loop-member.invariant.endpoints
    ∙ targets_among-end c.args.lifetime_ms c.args.moment group c.args.source.now rows (keys kept) (seen_members c.loop-member.yielded) _ walk (ap keys_of c.in-None.ensures.steps.0)))
    (AreTargets-table c.args.lifetime_ms c.args.moment group c.args.source.now rows _ kept members_compared by_group c.range-member-items.ensures.ordered)

pub returns-then-not-is_of-clause-endpoints : goal.returns-then-not-is_of-clause-endpoints
returns-then-not-is_of-clause-endpoints c =
    let group = c.args.group.now in
    let rows = c.args.self.now in
    let kept = c.by_group.result.now in
    let by_group = subst (AreByGroup kept) c.self.view_is c.by_group.ensures in
    let before = seen_members c.loop-member.yielded in
    let walk = walked _ group c.named.result kept _ _ _ c.loop-member.yielded members_compared c.named.ensures (c.range-member-items.ensures.between tt) c.into_iter-member-iterator.ensures.into_iter_gives c.loop-member.yielded_by in
    subst (AreTargets c.args.lifetime_ms c.args.moment group c.args.source.now rows) (sym (c.loop-member.invariant.endpoints
    ∙ targets_among-stop c.args.lifetime_ms c.args.moment group c.args.source.now rows (keys kept) before (keys_of c.next.new.self) c.in-Some.member.now
    (subst (λ (by : GroupMember → GroupMember → Ordering). IsOrdered by kept) members_compared c.range-member-items.ensures.ordered)
    (walk ∙ ap (λ (rest : List (GroupMember × StoredFilter)). before ++ keys_of rest) c.in-Some.ensures.steps) (sym c.is_of.ensures ∙ c.if-not-is_of.true)))
    (AreTargets-table c.args.lifetime_ms c.args.moment group c.args.source.now rows _ kept members_compared by_group c.range-member-items.ensures.ordered)
