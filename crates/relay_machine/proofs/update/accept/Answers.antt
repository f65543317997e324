use Rattle.std.proofs.Common.{◌≤◌, arith}
use Rattle.endpoint_membership.specs.Log.{latest}
use Rattle.relay_machine.proofs.Answering.{answered-accepted, answered-over}
use Rattle.relay_machine.proofs.update.accept.Goals as goal

pub returns-in-Ok-clause-answers : goal.returns-in-Ok-clause-answers
returns-in-Ok-clause-answers c terms log holds =
    answered-accepted terms _ _ log c.args.source c.args.records _ _ (c.now-at.ensures.latest terms log holds) (c.in-Ok.ensures.passes terms log holds) (c.in-Ok.ensures.stands terms log holds)
    c.in-Ok.ensures.force c.entered.ensures.outcome c.entered.ensures.sends c.entered.ensures.change

pub returns-in-Err-Limit-clause-answers : goal.returns-in-Err-Limit-clause-answers
returns-in-Err-Limit-clause-answers c terms log holds =
    let moment = c.now-at.ensures.latest terms log holds in
    let least : c.now-at.result ≤ latest log = omega arith in
    let limit = rw c.in-Err-Limit.field-0-is at c.in-Err-Limit.ensures.limit terms log holds in
    let over = rw c.in-Err-Limit.field-0-is at c.quiet.ensures.outcome in
    let same = rw c.in-Err-Limit.field-0-is at c.in-Err-Limit.ensures.same terms log holds least in
    answered-over terms _ _ log c.args.source c.args.records _ _ _ moment limit holds same over c.quiet.ensures.sends c.quiet.ensures.change
