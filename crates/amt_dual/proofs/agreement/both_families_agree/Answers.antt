use Rattle.amt_dual.proofs.{DualAgrees.{now-agree-dual, rows-forwarded}, DualCourses.{dual-logged-after}}
use Rattle.amt_dual.proofs.agreement.both_families_agree.Goals as goal

pub returns-clause-forwarded : goal.returns-clause-forwarded
returns-clause-forwarded c = λ setup schedule machine endpoint report group source lawful may short in_time heard active own.
    now-agree-dual setup schedule machine endpoint report lawful may heard group source own short in_time active

pub returns-clause-shown : goal.returns-clause-shown
returns-clause-shown c = rows-forwarded

pub returns-clause-logged : goal.returns-clause-logged
returns-clause-logged c = dual-logged-after
