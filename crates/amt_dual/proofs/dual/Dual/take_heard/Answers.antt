use Rattle.{std.proofs.Common.{false, true, sym, ◌∙◌}, amt_pair.proofs.PairStates.{on_err_by}, amt_dual.{specs.Answers.{nonce_for}, proofs.{DualMachines.{after4, after6, heard4, heard6, ignored_by_step, stays6, unheard6}, DualStates.{refused-ignored}}}}
use Rattle.amt_dual.proofs.dual.Dual.take_heard.Goals as goal

pub returns-then-not-was_ignored-clause-steps : goal.returns-then-not-was_ignored-clause-steps
returns-then-not-was_ignored-clause-steps c = λ settings course at from bytes is.
    let same = c.in_ok-v4.ensures.step settings.v4 (nonce_for settings.nonce false) course.v4 at.v4 in
    let taken = ignored_by_step settings course from bytes c.args.event.now is c.in_ok-v4.v4 c.was_ignored.result same c.was_ignored.ensures ∙ c.if-not-was_ignored.true in
    record { v4 = heard4 settings course from bytes c.args.event.now is c.in_ok-v4.v4 same; v6 = unheard6 settings course from bytes c.args.event.now is taken }

pub returns-then-not-was_ignored-clause-next : goal.returns-then-not-was_ignored-clause-next
returns-then-not-was_ignored-clause-next c = λ settings course at from bytes is.
    let same = c.in_ok-v4.ensures.step settings.v4 (nonce_for settings.nonce false) course.v4 at.v4 in
    let taken = ignored_by_step settings course from bytes c.args.event.now is c.in_ok-v4.v4 c.was_ignored.result same c.was_ignored.ensures ∙ c.if-not-was_ignored.true in
    record {
      v4 = after4 settings course from bytes c.args.event.now is c.take_at.new.machine (c.in_ok-v4.ensures.next settings.v4 (nonce_for settings.nonce false) course.v4 at.v4);
      v6 = stays6 settings course from bytes c.args.event.now is c.args.self.now.v6 at.v6 taken;
    }

pub returns-in_err-v6-clause-err : goal.returns-in_err-v6-clause-err
returns-in_err-v6-clause-err c =
    on_err_by c.from_residual-in_err-v6.result
    (let refused = refused-ignored c.in_ok-v4.v4.outcome (sym c.was_ignored.ensures ∙ c.if-not-was_ignored.false) in
    λ i. record { v4 = c.in_ok-v4.ensures.same refused i; v6 = c.in_err-v6.ensures.err i })

pub returns-clause-steps : goal.returns-clause-steps
returns-clause-steps c = λ settings course at from bytes is.
    let same = c.in_ok-v4.ensures.step settings.v4 (nonce_for settings.nonce false) course.v4 at.v4 in
    let also = c.in_ok-v6.ensures.step settings.v6 (nonce_for settings.nonce true) course.v6 at.v6 in
    let passed = ignored_by_step settings course from bytes c.args.event.now is c.in_ok-v4.v4 c.was_ignored.result same c.was_ignored.ensures ∙ c.if-not-was_ignored.false in
    record { v4 = heard4 settings course from bytes c.args.event.now is c.in_ok-v4.v4 same; v6 = heard6 settings course from bytes c.args.event.now is c.in_ok-v6.v6 also passed }

pub returns-clause-next : goal.returns-clause-next
returns-clause-next c = λ settings course at from bytes is.
    let same = c.in_ok-v4.ensures.step settings.v4 (nonce_for settings.nonce false) course.v4 at.v4 in
    let passed = ignored_by_step settings course from bytes c.args.event.now is c.in_ok-v4.v4 c.was_ignored.result same c.was_ignored.ensures ∙ c.if-not-was_ignored.false in
    record {
      v4 = after4 settings course from bytes c.args.event.now is c.take_at.new.machine (c.in_ok-v4.ensures.next settings.v4 (nonce_for settings.nonce false) course.v4 at.v4);
      v6 = after6 settings course from bytes c.args.event.now is c.take_at-2.new.machine (c.in_ok-v6.ensures.next settings.v6 (nonce_for settings.nonce true) course.v6 at.v6) passed;
    }

pub returns-clause-same : goal.returns-clause-same
returns-clause-same c = λ refused i. record { v4 = c.in_ok-v4.ensures.same refused.v4 i; v6 = c.in_ok-v6.ensures.same refused.v6 i }
