use Rattle.std.{proofs.{Common.{List, sym, ap, drop, ◌∙◌, ◌+◌, ◌∷◌}, lemmas.List.{drop_more}}, specs.BTreeMap.{get}}
use Rattle.amt_values.specs.Order.{ip_order}
use Rattle.source_filter.specs.declared.record.Record.{Record}
use Rattle.endpoint_membership.{specs.{EndpointMemberships.{renewed_filter_after_all}, Log.{on_group}}, proofs.EnoughRecords.{one_first}}
use Rattle.endpoint_membership.proofs.after_report.apply_few.Goals as goal

pub loop-group_record-preserved : goal.loop-group_record-preserved
loop-group_record-preserved c group =
    let k = c.loop-group_record.group_record-index in
    let records = c.args.records.now in
    let item = c.group_record-item.result in
    let before = get ip_order c.loop-group_record.filters group in
    let split = drop_more records k item c.loop-group_record-test.true ∙ ap (λ (next : Record). next ∷ drop (k + 1) records) (sym c.group_record-item.is) in
    ap (renewed_filter_after_all c.args.moment (on_group group (drop (k + 1) records))) (c.in_ok-apply_record.ensures group)
    ∙ sym (one_first c.args.moment group item (drop (k + 1) records) before)
    ∙ ap (λ (left : List Record). renewed_filter_after_all c.args.moment (on_group group left) before) (sym split) ∙ c.loop-group_record.invariant group
