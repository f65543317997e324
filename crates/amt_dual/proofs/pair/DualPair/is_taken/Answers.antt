use Rattle.{std.proofs.Common.{sym, ◌∙◌}, amt_pair.proofs.MembersAt.{taken_by}}
use Rattle.amt_dual.proofs.pair.DualPair.is_taken.Goals as goal

pub returns : goal.returns
returns c = c.has_taken.ensures ∙ sym (taken_by c.args.name.now c.args.peer.now c.args.self.now.gateways)
