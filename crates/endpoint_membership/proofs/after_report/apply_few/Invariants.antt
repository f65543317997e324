use Rattle.std.{proofs.Common.{◌≡◌, drop}, specs.BTreeMap.{get}}
use Rattle.amt_values.specs.{declared.address.Ip.{Ip}, Order.{ip_order}}
use Rattle.endpoint_membership.specs.{EndpointMemberships.{renewed_filter_after_all}, Log.{on_group}}
use Rattle.endpoint_membership.proofs.after_report.apply_few.Given as goal

-- what is left to apply makes of the filters what all of it made of the first ones
abbrev pub invariant-loop-group_record : goal.invariant-loop-group_record
invariant-loop-group_record l = (group : Ip)
    → renewed_filter_after_all l.moment (on_group group (drop l.group_record-index l.records)) (get ip_order l.filters group)
    ≡ renewed_filter_after_all l.moment (on_group group l.records) (get ip_order l.initial.filters group)
