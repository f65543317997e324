use Rattle.std.proofs.Common.{rules}
use Rattle.amt_values.specs.Octets.{AreOctets}
use Rattle.inner_datagrams.proofs.RightSum.{has_right_sum-zero}
use Rattle.inner_datagrams.proofs.checksum.has_right_sum.Goals as goal

pub returns : goal.returns
returns c =
    let small : AreOctets c.args.bytes.now = search rules in
    has_right_sum-zero c.args.bytes.now c.internet_sum.result small c.internet_sum.ensures
