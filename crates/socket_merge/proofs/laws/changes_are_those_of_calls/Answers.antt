use Rattle.socket_merge.proofs.{Changed.{changes-are}}
use Rattle.socket_merge.proofs.laws.changes_are_those_of_calls.Goals as goal

pub returns : goal.returns
returns c = changes-are
