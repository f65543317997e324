use Rattle.amt_dual.proofs.DualAgrees.{named-agree-dual}
use Rattle.amt_dual.proofs.agreement.named_groups_agree.Goals as goal

pub returns : goal.returns
returns c = λ setup schedule machine endpoint report group source lawful may heard own names.
    named-agree-dual setup schedule machine endpoint report lawful may heard group source own names
