use Rattle.std.proofs.Common.{Some}
use Rattle.source_filter.proofs.Compared.{compared}
use Rattle.endpoint_membership.proofs.FilterMap.{updated}
use Rattle.endpoint_membership.proofs.after_report.set_filter.Goals as goal

pub returns-in-Ok : goal.returns-in-Ok
returns-in-Ok c = updated _ c.args.filters.now c.insert.new.self c.args.group (Some c.args.renewed_filter) compared c.in-Ok.ensures.updates
