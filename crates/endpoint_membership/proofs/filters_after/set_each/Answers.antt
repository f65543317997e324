use Rattle.std.{proofs.{Common.{List, Some, if◌then◌else◌, sym, ap, subst, ◌∙◌}, lemmas.Map.Keys.{sorted_tail}}, specs.{Option.{option_or}, Vec.Iter.{into_iter_items}}}
use Rattle.amt_values.specs.Ascending.{IsAscending}
use Rattle.endpoint_membership.{specs.{EndpointGroup.{EndpointGroup, same_endpoint_group}, FiltersAfter.{left_at, left_of}, Membership.{Membership, endpoint_group_of, membership_order}, Memberships.{membership_in}, declared.stored.StoredFilter.{StoredFilter}}, proofs.FiltersAfter.{first_left}}
use Rattle.endpoint_membership.proofs.filters_after.set_each.Goals as goal

pub loop-membership-preserved : goal.loop-membership-preserved
loop-membership-preserved c =
    let membership = c.in-Some.membership in
    let rest = into_iter_items c.next.new.self in
    let given = c.in-Some.ensures.steps.0 in
    let ascends = subst (IsAscending membership_order) given c.loop-membership.invariant.ascend in
    record {
      ascend = sorted_tail membership_order membership rest ascends;
      left = λ at. let old = left_at c.loop-membership.filters at in
          first_left membership rest at old (left_at c.set_left.new.filters at) ascends
          (c.in_ok-set_left.ensures at ∙ ap (λ (key : EndpointGroup). if same_endpoint_group key at then Some (Some c.into_stored_filter.result.filter) else old) c.endpoint_group-at.ensures
          ∙ ap (λ (stored : StoredFilter). if same_endpoint_group (endpoint_group_of membership) at then Some (Some stored.filter) else old) c.into_stored_filter.ensures)
          ∙ ap (λ (left : List Membership). option_or (left_of (membership_in left at)) old) (sym given) ∙ c.loop-membership.invariant.left at;
    }
