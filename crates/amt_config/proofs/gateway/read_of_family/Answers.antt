use Rattle.std.proofs.Common.{◌≡◌, [], Some, codes, sym, subst, ap, ◌∙◌}
use Rattle.group_records.specs.declared.family.Family.{Family}
use Rattle.script_lines.specs.Form.{IsAddressText, IsFamilyText}
use Rattle.socket_merge.specs.FullReport.{family_by}
use Rattle.toml.specs.{Data.{as_table}, View.{items_view, table_view}}
use Rattle.amt_config.{specs.{Arrays.{those_in}, Join.{AreJoins}, Key.{HasText}}, proofs.{Faults.{past}, GatewayLaws.{family_back, in_joins}}}
use Rattle.amt_config.proofs.gateway.read_of_family.Goals as goal

pub returns-in-Err-clause-fault : goal.returns-in-Err-clause-fault
returns-in-Err-clause-fault c =
    past c.in_ok-listen.ensures.right (past c.in_ok-deliver.ensures.right (past c.in_ok-control.ensures.right (past c.in_ok-discovery.ensures.right
    (past c.in_ok-source.ensures.right (past c.in_ok-relay.ensures.right (past c.in_ok-port.ensures.right (past c.in_ok-linux_relay.ensures.right (past c.in_ok-report_seconds.ensures.right (past c.in_ok-items.ensures.right
    (in_joins (table_view c.args.table.now) c.args.family (those_in as_table (items_view c.in_ok-items.items.now)) c.in-Err.fault c.requires c.in_ok-items.ensures.found c.in-Err.ensures.fault))))))))))

pub returns-clause-found : goal.returns-clause-found
returns-clause-found c =
    let table = table_view c.args.table.now in
    let tables = those_in as_table (items_view c.in_ok-items.items.now) in
    let back : c.args.family ≡ family_by c.is_v6.result = sym (ap family_by c.is_v6.ensures ∙ family_back c.args.family) in
    record {
      family = subst (λ (f : Family). HasText (codes "family") table (IsFamilyText f)) back c.requires;
      listen = c.in_ok-listen.ensures.found;
      deliver = c.in_ok-deliver.ensures.found;
      control = c.in_ok-control.ensures.found;
      discovery = c.in_ok-discovery.ensures.found;
      source = subst (λ (f : Family). HasText (codes "source") table (IsAddressText (Some f) c.in_ok-source.source)) back c.in_ok-source.ensures.found;
      relay = c.in_ok-relay.ensures.found;
      port = c.in_ok-port.ensures.found;
      linux_relay = c.in_ok-linux_relay.ensures.found;
      report = c.in_ok-report_seconds.ensures.found;
      joins = record { tables = tables; there = c.in_ok-items.ensures.found; are = subst (λ (f : Family). AreJoins (Some f) [] tables c.in-Ok.joins) back c.in-Ok.ensures.found };
    }
