use Rattle.std.{proofs.{Common.{◌≡◌, subst, sym, ap, map-id, ◌∙◌}, lemmas.Map.Iter.{iter_end}}, specs.{BTreeMap.{IsOrdered}, declared.cmp.Ordering.{Ordering}}}
use Rattle.endpoint_membership.{specs.{MembershipChanges.{AreChanges}, declared.keys.GroupMember.{GroupMember}}, proofs.{Changes.{AreChanges-of, changes_of}, PartOrders.{members_compared}}}
use Rattle.endpoint_membership.proofs.parts.StoredMemberships.changes_to.Goals as goal

pub returns : goal.returns
returns c after are =
    let before = c.args.self.now in
    let all : c.args.filters.entries ≡ c.loop-member.yielded =
    sym (sym (map-id c.loop-member.yielded) ∙ (iter_end (λ entry. entry) c.args.filters.entries c.loop-member.yielded c.into_iter-member-iterator.result c.loop-member.member-iterator c.next.new.self c.next.result c.into_iter-member-iterator.ensures.into_iter_gives.0 c.loop-member.yielded_by c.in-None.is c.next.ensures.steps).0) in
    let ordered = subst (λ (by : GroupMember → GroupMember → Ordering). IsOrdered by c.args.filters) members_compared c.into_iter-member-iterator.ensures.into_iter_gives.5 in
    subst (AreChanges before after) (ap (changes_of before) all ∙ sym c.loop-member.invariant) (AreChanges-of before after c.args.filters ordered are)
