-- A record more, or the first that is at fault.
use Rattle.std.proofs.{Common.{arith}, lemmas.Result.{err_from_is_err_and}}
use Rattle.amt_dns.specs.Answer.{AreRecords}
use Rattle.amt_dns.proofs.answer.read_records.Goals as goal

pub loop-number-init : goal.loop-number-init
loop-number-init c = rw c.new-found.ensures (record { records = AreRecords.none; within = c.requires.within; few = omega arith })

pub loop-number-preserved : goal.loop-number-preserved
loop-number-preserved c =
    let one = c.in_ok-at.ensures.record in
    record {
      records = rw one.1 (AreRecords.more c.loop-number.number c.loop-number.at c.in_ok-at.at c.loop-number.found one.0 c.loop-number.invariant.records one.2);
      within = one.2.whole;
      few = omega (arith, c.in_ok-at.ensures.one);
    }

pub returns-in_err-at-clause-refused : goal.returns-in_err-at-clause-refused
returns-in_err-at-clause-refused c =
    let left = err_from_is_err_and c.from_residual.result c.from_residual.ensures.1 in
    rw (left.1, left.2) (λ not. record {
      number = c.loop-number.number;
      at = c.loop-number.at;
      found = c.loop-number.found;
      counted = omega arith;
      before = c.loop-number.invariant.records;
      is = rw c.from.ensures at (c.in_err-at.ensures.refused not);
    })
