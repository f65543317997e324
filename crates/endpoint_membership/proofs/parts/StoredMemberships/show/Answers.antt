use Rattle.std.proofs.Common.{None, Some, map, sym, ap, subst, ◌∙◌}
use Rattle.amt_values.specs.Ascending.{IsAscending}
use Rattle.endpoint_membership.{specs.{Filters.{stored_membership}, Membership.{endpoint_group_of, membership_order}, Memberships.{row_of}}, proofs.PairsWalked.{all_seen, rows-push, seen-none, stored_at}}
use Rattle.endpoint_membership.proofs.parts.StoredMemberships.show.Goals as goal

pub loop-at-preserved-in-Ok : goal.loop-at-preserved-in-Ok
loop-at-preserved-in-Ok c =
    let at = c.in-Some.at.now in
    let stored = c.in-Some-get.stored.now in
    rows-push c.args.self.now c.loop-at.yielded c.in-Some.at (stored_membership (at, stored)) c.loop-at.all c.push_row.new.all
    (stored_at c.self.inside.filters c.args.self.now at (Some stored) c.self.view_is c.in-Some-get.ensures.value) c.loop-at.invariant c.in-Ok.ensures

pub loop-at-preserved : goal.loop-at-preserved
loop-at-preserved c =
    c.loop-at.invariant
    ∙ ap (map row_of) (sym (seen-none c.args.self.now c.loop-at.yielded c.in-Some.at (stored_at c.self.inside.filters c.args.self.now c.in-Some.at.now None c.self.view_is c.in_default.ensures.value)))

pub returns : goal.returns
returns c =
    let ascends = subst (IsAscending membership_order) c.self.view_is c.self.invariant.ascends in
    c.loop-at.invariant
    ∙ ap (map row_of) (all_seen c.args.self.now c.pairs-at-items.result.now.keys c.into_iter-at-iterator.result c.loop-at.at-iterator c.loop-at.yielded ascends
    (c.pairs-at-items.ensures.keys ∙ ap (map endpoint_group_of) c.self.view_is) c.into_iter-at-iterator.ensures.into_iter_gives.0 c.loop-at.yielded_by c.in-None.ensures.steps.0)
