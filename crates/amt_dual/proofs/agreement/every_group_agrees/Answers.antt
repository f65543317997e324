use Rattle.amt_dual.proofs.DualAgrees.{all-agree-dual, unnamed-unwanted-dual}
use Rattle.amt_dual.proofs.agreement.every_group_agrees.Goals as goal

pub returns-clause-same : goal.returns-clause-same
returns-clause-same c = λ setup schedule machine endpoint report group source lawful may short in_time heard own.
    all-agree-dual setup schedule machine endpoint report lawful may heard group source own short in_time

pub returns-clause-unnamed : goal.returns-clause-unnamed
returns-clause-unnamed c = λ setup schedule machine endpoint report group source lawful may heard unnamed.
    unnamed-unwanted-dual setup schedule machine endpoint report lawful may heard group source unnamed
