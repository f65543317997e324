use Rattle.std.{proofs.{Common.{rules, Some, ap, cond, ◌∙◌}, lemmas.Result.{on_ok_weaker}}, specs.{BTreeMap.{get}, declared.cmp.Ordering.{Ordering}}}
use Rattle.amt_values.specs.{declared.address.Ip.{Ip}, Order.{ip_order}}
use Rattle.source_filter.proofs.Compared.{compared}
use Rattle.endpoint_membership.{specs.{declared.after_report.RenewedFilter.{RenewedFilter}, EndpointGroup.{same_group}}, proofs.FilterMap.{one_applied, same_group-back, set_here, updated}}
use Rattle.endpoint_membership.proofs.after_report.apply_record.Goals as goal

-- src/after_report.rt:91:9
pub returns-in-Some : goal.returns-in-Some
returns-in-Some c =
    let group_record = c.args.group_record.now in
    let key = group_record.group in
    let filters = c.args.filters.now in
    let known = c.in-Some.known.now in
    let applied = c.apply.new.self in
    let old = c.in-Some.ensures.value ∙ ap (λ (order : Ip → Ip → Ordering). get order filters key) compared in
    let set = updated _ filters (c.get_mut.follows.lender applied) key (Some applied) compared ((c.get_mut.follows.holds applied).3 (search rules)) in
    on_ok_weaker c.apply.result (λ is group.
    let before = get ip_order filters group in
    let here = same_group key group in
    one_applied group group_record c.args.moment before _ here (same_group-back key group)
    (set group ∙ ap (λ (next : RenewedFilter). cond here (Some next) before) is
    ∙ set_here key group group_record c.args.moment filters (Some known) old)) c.apply.ensures
