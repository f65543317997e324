use Rattle.std.proofs.Common.{◌≤◌, List, sym, ap, subst, ◌∙◌, arith}
use Rattle.amt_values.specs.{Order.{endpoint_order}, EndpointValue.{EndpointValue}, Ascending.{has}}
use Rattle.endpoint_membership.{specs.{Admission.{is_admitted}, Limits.{live_count}, Table.{Holds, TableValue}}, proofs.TargetsByLog.{Contains-has, has-targets_of, length-targets, targets_are}}
use Rattle.endpoint_membership.proofs.table.Table.admitting_into.Goals as goal

pub collect_targets-requires-clause-room : goal.collect_targets-requires-clause-room
collect_targets-requires-clause-room c = subst (λ (table : TableValue). live_count table.rows ≤ c.args.out.now.room) (sym c.self.view_is) c.requires.room

pub returns-clause-targets : goal.returns-clause-targets
returns-clause-targets c settings log holds =
    targets_are settings _ log c.args.group.now c.args.source.now c.args.at.now c.later-later.result c.collect_targets.new.out.endpoints c.later-later.ensures c.collect_targets.ensures.endpoints
    (subst (λ (table : TableValue). Holds settings table log) (sym c.self.view_is) holds)

pub returns-clause-exactly : goal.returns-clause-exactly
returns-clause-exactly c settings log holds endpoint =
    Contains-has c.collect_targets.new.out.endpoints endpoint (is_admitted settings.lifetime log (record { endpoint = endpoint; group = c.args.group.now }) c.args.source.now c.args.at.now)
    (ap (λ (endpoints : List EndpointValue). has endpoint_order endpoints endpoint) (returns-clause-targets c settings log holds)
    ∙ has-targets_of settings.lifetime log c.args.group.now c.args.source.now c.args.at.now endpoint)

pub returns-clause-ascending : goal.returns-clause-ascending
returns-clause-ascending c = c.collect_targets.ensures.endpoints.ascend

pub returns-clause-few : goal.returns-clause-few
returns-clause-few c =
    let few = length-targets c.self.inside.lifetime_ms c.later-later.result c.args.group.now c.args.source.now c.self.inside.rows c.collect_targets.new.out.endpoints c.collect_targets.ensures.endpoints in
    let live = ap (λ (table : TableValue). live_count table.rows) c.self.view_is in
    omega arith
