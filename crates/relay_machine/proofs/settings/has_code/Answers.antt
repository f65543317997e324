use Rattle.std.{proofs.Common.{◌<◌, rules}, specs.Option.{IfSome}}
use Rattle.relay_machine.proofs.Times.{HasCode-from_answer}
use Rattle.relay_machine.proofs.settings.has_code.Goals as goal

pub returns : goal.returns
returns c =
    let small : IfSome c.value_code4.result (λ code. code < 256) = search rules in
    rw c.is_some.ensures (HasCode-from_answer c.args.time c.value_code4.result small c.value_code4.ensures.found c.value_code4.ensures.only)
