use Rattle.std.{proofs.Common.{List, sym, ap, ◌∙◌}, specs.{Borrow.{Bor}, BTreeMap.{get}}}
use Rattle.amt_values.specs.Order.{ip_order}
use Rattle.source_filter.specs.declared.record.Record.{Record}
use Rattle.endpoint_membership.{specs.{Effective.{lent}, EndpointMemberships.{renewed_filter_after_all}, Log.{on_group}}, proofs.EnoughRecords.{one_first}}
use Rattle.endpoint_membership.proofs.after_report.apply_each.Goals as goal

pub loop-group_record-preserved : goal.loop-group_record-preserved
loop-group_record-preserved c group =
    let rest = lent c.pop_front.new.self.items in
    let before = get ip_order c.loop-group_record.filters group in
    ap (renewed_filter_after_all c.args.moment (on_group group rest)) (c.in_ok-apply_record.ensures group)
    ∙ sym (one_first c.args.moment group c.in-Some.group_record.now rest before)
    ∙ ap (λ (list : List (Bor Record)). renewed_filter_after_all c.args.moment (on_group group (lent list)) before) (sym c.in-Some.ensures.items)
    ∙ c.loop-group_record.invariant group
