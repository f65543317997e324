use Rattle.std.proofs.Common.{subst}
use Rattle.amt_values.specs.Text.{IsPeerText}
use Rattle.amt_values.proofs.text.parse_peer.Goals as goal

pub returns-in-Some-clause-only : goal.returns-in-Some-clause-only
returns-in-Some-clause-only c = λ peer h.
    c.parse_bracketed_peer.ensures.only peer (subst (IsPeerText peer) c.in-Some.ensures.found h)
