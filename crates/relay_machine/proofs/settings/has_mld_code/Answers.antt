use Rattle.std.{proofs.Common.{◌<◌, rules}, specs.Option.{IfSome}}
use Rattle.relay_machine.proofs.Times.{HasMldCode-from_answer}
use Rattle.relay_machine.proofs.settings.has_mld_code.Goals as goal

pub returns : goal.returns
returns c =
    let small : IfSome c.value_code6.result (λ code. code < 65536) = search rules in
    rw c.is_some.ensures (HasMldCode-from_answer c.args.time c.value_code6.result small c.value_code6.ensures.found c.value_code6.ensures.only)
