use Rattle.std.{proofs.{Common.{List, sym, ap, subst, ◌∙◌}, lemmas.Map.Keys.{sorted_tail}}, specs.{Option.{option_or}, Vec.Iter.{into_iter_items}}}
use Rattle.amt_values.specs.Ascending.{IsAscending}
use Rattle.endpoint_membership.{specs.{Membership.{Membership, endpoint_group_of, membership_order}, Memberships.{membership_in}, Parts.{AreRenewalsOf}}, proofs.RenewedTogether.{ArePresent, first_put, first_settled, same_found}}
use Rattle.endpoint_membership.proofs.parts.renew.settle.Goals as goal

pub put_membership-requires : goal.put_membership-requires
put_membership-requires c =
    let before = c.loop-membership.invariant in
    let given = subst (ArePresent c.args.filters.now) c.in-Some.ensures.steps.0 before.present in
    same_found c.args.filters.now c.loop-membership.filters before.pairs (endpoint_group_of c.in-Some.membership) ∙ given.0

pub loop-membership-preserved : goal.loop-membership-preserved
loop-membership-preserved c =
    let membership = c.in-Some.membership in
    let rest = into_iter_items c.next.new.self in
    let filters = c.loop-membership.filters in
    let after = c.put_membership.new.filters in
    let before = c.loop-membership.invariant in
    let given = c.in-Some.ensures.steps.0 in
    let ascends = subst (IsAscending membership_order) given before.ascend in
    record {
      ascend = sorted_tail membership_order membership rest ascends;
      present = (subst (ArePresent c.args.filters.now) given before.present).1;
      staged = first_settled membership rest filters after c.loop-membership.renewals c.put_membership.new.renewals ascends c.put_membership.ensures.set
          (subst (λ (left : List Membership). AreRenewalsOf left filters c.loop-membership.renewals) given before.staged) c.put_membership.ensures.renewals;
      new = λ at. first_put membership rest filters after at ascends c.put_membership.ensures.set
          ∙ ap (λ (left : List Membership). option_or (membership_in left at) (membership_in filters at)) (sym given) ∙ before.new at;
      pairs = c.put_membership.ensures.pairs ∙ before.pairs;
    }
