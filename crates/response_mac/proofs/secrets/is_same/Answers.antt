use Rattle.std.proofs.Common.{arith}
use Rattle.response_mac.proofs.Differences.{no_difference_more}
use Rattle.response_mac.proofs.secrets.is_same.Goals as goal

pub loop-i-preserved : goal.loop-i-preserved
loop-i-preserved c =
    no_difference_more c.loop-i.difference c.loop-i.i c.args.mac.now.0 c.args.other.now.0 (omega arith) (omega arith) c.loop-i.invariant
