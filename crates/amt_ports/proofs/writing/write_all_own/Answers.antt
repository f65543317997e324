-- Each write goes on where the one before it ended, and a write that failed has written nothing.
use Rattle.std.proofs.Common.{◌∙◌, rules}
use Rattle.amt_ports.proofs.Written.{Appends-prefix, Appends-step}
use Rattle.amt_ports.proofs.writing.write_all_own.Goals as goal

pub returns-in_default-clause-prefix : goal.returns-in_default-clause-prefix
returns-in_default-clause-prefix g c =
    let (done, parts, appended) = c.loop-rest.invariant.0 in
    Appends-prefix _ _ _ c.args.bytes.now done c.loop-rest.rest.now parts (search rules) appended c.in_default.ensures.bytes

pub loop-rest-preserved : goal.loop-rest-preserved
loop-rest-preserved g c =
    let (done, parts, appended) = c.loop-rest.invariant.0 in
    let more = Appends-step _ _ _ c.args.bytes.now done c.loop-rest.rest.now c.in-Ok.count parts appended c.in-Ok.ensures.bytes in
    (rw c.split_at.ensures.back more, c.in-Ok.ensures.cause.quiet ∙ c.loop-rest.invariant.1)
