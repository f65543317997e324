use Rattle.amt_upstream.proofs.CountedKeys.{IsCleanBesides-lowered}
use Rattle.amt_upstream.proofs.tally.Tally.take_back.Goals as goal

pub settle-requires : goal.settle-requires
settle-requires c = IsCleanBesides-lowered c.args.keys.now c.args.self.now.numbers c.lower.new.self.numbers c.requires c.lower.ensures
