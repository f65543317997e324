use Rattle.std.{proofs.{Common.{◌≡◌, List, None, Some, sym, ap, subst, ◌∙◌}, lemmas.Map.Keys.{sorted_head, sorted_tail}}, specs.{Option.{option_or}, Vec.Iter.{into_iter_items}}}
use Rattle.amt_values.specs.Ascending.{IsAscending}
use Rattle.endpoint_membership.specs.{EndpointGroup.{EndpointGroup}, Filters.{IsSetAt, stored_membership}, Membership.{Membership, membership_order}, Memberships.{membership_in}, Parts.{stored_filter}, declared.stored.StoredFilter.{StoredFilter}}
use Rattle.endpoint_membership.proofs.{RenewedTogether.{first_put}, SetAt.{AreAbsent, absent_still, others_stay}}
use Rattle.endpoint_membership.proofs.parts.StoredMemberships.insert_all.Goals as goal

pub insert-requires : goal.insert-requires
insert-requires c = record {
  absent = ap (membership_in c.loop-membership.self) c.endpoint_group-at.ensures ∙ (subst (AreAbsent c.loop-membership.self) c.in-Some.ensures.steps.0 c.loop-membership.invariant.absent).0;
}

pub loop-membership-preserved : goal.loop-membership-preserved
loop-membership-preserved c =
    let membership = c.in-Some.membership in
    let rest = into_iter_items c.next.new.self in
    let rows = c.loop-membership.self in
    let before = c.loop-membership.invariant in
    let given = c.in-Some.ensures.steps.0 in
    let ascend = subst (IsAscending membership_order) given before.ascend in
    let set = subst (λ (at : EndpointGroup). IsSetAt at (Some (stored_membership (at, stored_filter membership))) rows c.insert.new.self) c.endpoint_group-at.ensures
    (subst (λ (stored : StoredFilter). IsSetAt c.endpoint_group-at.result (Some (stored_membership (c.endpoint_group-at.result, stored))) rows c.insert.new.self) c.into_stored_filter.ensures c.in_ok-insert.ensures.set) in record {
      ascends = set.ascends;
      ascend = sorted_tail membership_order membership rest ascend;
      absent = absent_still membership rest rows c.insert.new.self (sorted_head membership_order membership rest ascend) set (subst (AreAbsent rows) given before.absent).1;
      each = λ at. first_put membership rest rows c.insert.new.self at ascend set ∙ ap (λ (left : List Membership). option_or (membership_in left at) (membership_in rows at)) (sym given) ∙ before.each at;
      others = λ at none. others_stay membership rest rows c.insert.new.self at (membership_in c.args.self.now at) set
          (subst (λ (left : List Membership). (membership_in left at ≡ None) × (membership_in rows at ≡ membership_in c.args.self.now at)) given (before.others at none));
    }

pub returns-in_err-insert-clause-others : goal.returns-in_err-insert-clause-others
returns-in_err-insert-clause-others c at none = ap (λ (rows : List Membership). membership_in rows at) c.in_err-insert.ensures.err ∙ (c.loop-membership.invariant.others at none).1
