use Rattle.std.proofs.Common.{◌≡◌, true, arith}
use Rattle.relay_machine.proofs.Answering.{answered-no_tunnel, answered-torn}
use Rattle.relay_machine.proofs.teardown.take_teardown.Goals as goal

pub returns-then-clear-clause-answers : goal.returns-then-clear-clause-answers
returns-then-clear-clause-answers c terms log holds =
    let good : c.args.good ≡ true = cc in
    rw good (answered-torn terms _ _ log c.args.named _ _ _ (c.now-at.ensures.latest terms log holds) c.if-clear.true (c.clear.ensures.live terms log holds) (c.clear.ensures.stands terms log holds)
    c.clear.ensures.force c.entered.ensures.outcome c.entered.ensures.sends c.entered.ensures.change)

pub returns-clause-answers : goal.returns-clause-answers
returns-clause-answers c terms log holds =
    let good : c.args.good ≡ true = cc in
    let now = c.now-at.ensures.latest terms log holds in
    let same = c.clear.ensures.same terms log holds (omega (arith, now)) c.if-clear.false in
    rw good (answered-no_tunnel terms _ _ log c.args.named _ _ _ now c.if-clear.false (c.clear.ensures.live terms log holds) (c.clear.ensures.stands terms log holds) holds same
    c.quiet-2.ensures.outcome c.quiet-2.ensures.sends c.quiet-2.ensures.change)
