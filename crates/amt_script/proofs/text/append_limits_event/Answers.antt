use Rattle.std.proofs.{Common.{◌^◌, ◌<◌, rules}, lemmas.Result.{on_ok_weaker}}
use Rattle.relay_machine.specs.declared.event.Event.TheVariants.{Limits}
use Rattle.amt_script.proofs.Printed.{limits_said, line_of}
use Rattle.amt_script.proofs.text.append_limits_event.Goals as goal

pub returns-clause-back : goal.returns-clause-back
returns-clause-back c =
    let limits = c.args.limits.now in
    let endpoints : limits.endpoints < 2 ^ 32 = search rules in
    let groups : limits.groups < 2 ^ 32 = search rules in
    let sources : limits.sources < 2 ^ 32 = search rules in
    on_ok_weaker c.append.result (λ same. line_of (Limits limits) (limits_said limits c.requires endpoints groups sources)) c.append.ensures.ok
