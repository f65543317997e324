use Rattle.std.{proofs.{Common.{◌∙◌}, lemmas.Result.{on_ok_weaker}}, specs.BTreeMap.{get}}
use Rattle.amt_values.specs.Order.{ip_order}
use Rattle.endpoint_membership.proofs.after_report.apply_records.Goals as goal

pub returns : goal.returns
returns c =
    on_ok_weaker c.apply_each.result
    (λ applied group. applied group ∙ c.in_ok-effective.ensures c.args.moment group (get ip_order c.args.filters.now group) (c.requires group)) c.apply_each.ensures
