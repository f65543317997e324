use Rattle.amt_pair.proofs.PairAgrees.{named-agree-pair}
use Rattle.amt_pair.proofs.agreement.named_groups_agree.Goals as goal

pub returns : goal.returns
returns c = λ setup schedule member endpoint report group source lawful may heard names.
    named-agree-pair setup schedule member endpoint report lawful may heard group source names
