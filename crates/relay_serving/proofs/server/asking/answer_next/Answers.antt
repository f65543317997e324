use Rattle.std.proofs.Common.{ap, arith, refl, subst}
use Rattle.amt_ports.{specs.{Arrivals.{link_answer}, Told.{Answers}, declared.link.{Got.{Got}, LinkAnswer.TheVariants.{Nothing as NothingCame, Closed as LinkClosed}}}, proofs.Lists.{one_answer}}
use Rattle.relay_serving.{specs.{Asked.{Failed, Shut, Silent}}, proofs.Askings.{next_line}}
use Rattle.relay_serving.proofs.server.asking.answer_next.Goals as goal

pub returns-in-Ok-Datagram-clause-next : goal.returns-in-Ok-Datagram-clause-next
returns-in-Ok-Datagram-clause-next g c =
    let got = c.in-Ok-Datagram in
    let waits = c.recv.ensures.waits in
    let is = subst (Answers LinkClosed (g.K.Link.coming c.args.control.now.link) (g.K.Link.coming c.recv.new.self)) (ap (λ (one : Got). link_answer one c.recv.new.buf) got.field-0-is) got.ensures.answer in
    next_line _ _ _ _ _ _ _ is (record { same_tried = c.recv.ensures.sends; same_faults = c.recv.ensures.apart }) refl got.ensures.cause.quiet (omega (arith, waits)) c.answer_line_of.ensures.answers

pub returns-in-Ok-Nothing-clause-next : goal.returns-in-Ok-Nothing-clause-next
returns-in-Ok-Nothing-clause-next g c =
    let got = c.in-Ok-Nothing in
    let waits = c.recv.ensures.waits in
    let is = subst (Answers LinkClosed (g.K.Link.coming c.args.control.now.link) (g.K.Link.coming c.recv.new.self)) (ap (λ (one : Got). link_answer one c.recv.new.buf) got.field-0-is) got.ensures.answer in (
      Silent,
      omega arith,
      record {
        came = one_answer LinkClosed _ _ _ NothingCame is refl;
        cause = got.ensures.cause.quiet;
        untried = record { same_tried = c.recv.ensures.sends; same_faults = c.recv.ensures.apart };
        same_copies = refl;
        unwaited = omega (arith, waits);
      },
    )

pub returns-in-Ok-Closed-clause-next : goal.returns-in-Ok-Closed-clause-next
returns-in-Ok-Closed-clause-next g c =
    let got = c.in-Ok-Closed in
    let waits = c.recv.ensures.waits in
    let is = subst (Answers LinkClosed (g.K.Link.coming c.args.control.now.link) (g.K.Link.coming c.recv.new.self)) (ap (λ (one : Got). link_answer one c.recv.new.buf) got.field-0-is) got.ensures.answer in (
      Shut,
      omega arith,
      record {
        came = one_answer LinkClosed _ _ _ LinkClosed is refl;
        cause = got.ensures.cause.quiet;
        untried = record { same_tried = c.recv.ensures.sends; same_faults = c.recv.ensures.apart };
        same_copies = refl;
        unwaited = omega (arith, waits);
      },
    )

pub returns-in-Err-clause-next : goal.returns-in-Err-clause-next
returns-in-Err-clause-next g c =
    let waits = c.recv.ensures.waits in (
      Failed,
      omega arith,
      record {
        came = c.in-Err.ensures.kept;
        cause = c.in-Err.ensures.cause.failed;
        untried = record { same_tried = c.recv.ensures.sends; same_faults = c.recv.ensures.apart };
        same_copies = refl;
        unwaited = omega (arith, waits);
      },
    )
