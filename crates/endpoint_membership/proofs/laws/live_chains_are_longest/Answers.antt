use Rattle.std.proofs.Common.{reverse}
use Rattle.endpoint_membership.proofs.LongestChain.{IsLongestChain-live_chain}
use Rattle.endpoint_membership.proofs.laws.live_chains_are_longest.Goals as goal

pub returns : goal.returns
returns c lifetime endpoint_group moment log = IsLongestChain-live_chain lifetime endpoint_group moment (reverse log)
