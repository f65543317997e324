use Rattle.std.proofs.Common.{rules}
use Rattle.socket_merge.proofs.Calls.{IsSound-none}
use Rattle.socket_merge.proofs.sockets.Sockets.new.Goals as goal

pub invariant_of-result : goal.invariant_of-result
invariant_of-result c = IsSound-none _ _ _ (search rules) (search rules) (search rules)
