use Rattle.std.proofs.Common.{Some}
use Rattle.endpoint_membership.proofs.{KeptFilters.{IsSet-updated}, PartOrders.{members_compared}}
use Rattle.endpoint_membership.proofs.filters_after.set_left.Goals as goal

pub returns-in-Ok : goal.returns-in-Ok
returns-in-Ok c = IsSet-updated _ c.args.filters.now c.insert.new.self c.args.at.now c.member_of.result (Some c.args.left) members_compared c.member_of.ensures c.in-Ok.ensures.updates.0
