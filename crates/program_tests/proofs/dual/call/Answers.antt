use Rattle.std.proofs.Common.{rules}
use Rattle.amt_dual.specs.Answers.{settings_at}
use Rattle.program_tests.proofs.dual.call.Goals as goal

pub step-requires : goal.step-requires
step-requires c =
    (c.in-Ok.ensures.found.call, c.in-Ok.ensures.may (settings_at c.args.dual.now c.args.v6) (c.requires c.args.v6))
