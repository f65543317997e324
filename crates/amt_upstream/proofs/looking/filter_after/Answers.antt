use Rattle.std.proofs.{Common.{rules, of_calls, ◌∙◌}, lemmas.Fn.{always_returns_same}}
use Rattle.endpoint_membership.specs.{MembershipChanges.{change_order}}
use Rattle.endpoint_membership.proofs.OwnFilters.{pair}
use Rattle.amt_upstream.proofs.ChangesInOrder.{after-found, after-none, place_of}
use Rattle.amt_upstream.proofs.looking.filter_after.Goals as goal

pub returns-in-Ok : goal.returns-in-Ok
returns-in-Ok c =
    let at = pair c.args.endpoint.now c.args.group.now in
    let same = c.in-Ok.ensures.position (λ change. change_order change (place_of at)) (always_returns_same _ _ _ (λ a r f k. search (rules, of_calls))) in
    λ after are. c.as_ref.ensures.value
    ∙ after-found c.args.table.now.rows after c.args.changes.now are at c.in-Ok.found c.index-changes-found.result c.in-Ok.ensures.bound (same c.index-changes-found.result)

pub returns-in-Err : goal.returns-in-Err
returns-in-Err c =
    let at = pair c.args.endpoint.now c.args.group.now in
    let found = c.in-Err.ensures.position (λ change. change_order change (place_of at)) (always_returns_same _ _ _ (λ a r f k. search (rules, of_calls))) in
    λ after are. c.filter.ensures.value ∙ after-none c.args.table.now.rows after c.args.changes.now are at c.in-Err.field-0 c.in-Err.ensures.bound found
