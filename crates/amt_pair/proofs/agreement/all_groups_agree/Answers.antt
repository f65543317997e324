use Rattle.amt_pair.proofs.PairAgrees.{all-agree-pair, unnamed-unwanted-pair}
use Rattle.amt_pair.proofs.agreement.all_groups_agree.Goals as goal

pub returns-clause-same : goal.returns-clause-same
returns-clause-same c = λ setup schedule member endpoint report group source lawful may short in_time heard.
    all-agree-pair setup schedule member endpoint report lawful may heard short in_time group source

pub returns-clause-unnamed : goal.returns-clause-unnamed
returns-clause-unnamed c = λ setup schedule member endpoint report group source lawful may heard unnamed.
    unnamed-unwanted-pair setup schedule member endpoint report lawful may heard group source unnamed
