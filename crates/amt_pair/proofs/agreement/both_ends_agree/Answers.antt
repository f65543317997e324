use Rattle.amt_pair.proofs.PairAgrees.{now-agree-pair, rows-forwarded}
use Rattle.amt_pair.proofs.agreement.both_ends_agree.Goals as goal

pub returns-clause-forwarded : goal.returns-clause-forwarded
returns-clause-forwarded c = λ setup schedule member endpoint report group source lawful may short in_time heard active.
    now-agree-pair setup schedule member endpoint report lawful may heard short in_time group source active

pub returns-clause-shown : goal.returns-clause-shown
returns-clause-shown c = rows-forwarded
