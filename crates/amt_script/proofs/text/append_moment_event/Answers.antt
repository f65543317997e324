use Rattle.std.proofs.{Common.{◌^◌, ◌<◌, arith}, lemmas.Result.{on_ok_weaker}}
use Rattle.relay_machine.specs.declared.event.Event.TheVariants.{Moment}
use Rattle.amt_script.proofs.Printed.{line_of, moment_said}
use Rattle.amt_script.proofs.text.append_moment_event.Goals as goal

pub returns-clause-back : goal.returns-clause-back
returns-clause-back c =
    let moment = c.args.moment in
    let small : moment < 2 ^ 62 = omega (arith, c.ms.ensures.value, c.ms.ensures.small) in
    on_ok_weaker c.append.result (λ same. line_of (Moment moment) (moment_said moment small)) c.append.ensures.ok
