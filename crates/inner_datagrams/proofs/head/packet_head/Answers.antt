use Rattle.inner_datagrams.proofs.Heads.{answer_found, answer_only}
use Rattle.inner_datagrams.proofs.head.packet_head.Goals as goal

pub returns-clause-found : goal.returns-clause-found
returns-clause-found c = answer_found c.read_head.result c.args.bytes.now c.read_head.ensures

pub returns-clause-only : goal.returns-clause-only
returns-clause-only c = answer_only c.read_head.result c.args.bytes.now c.read_head.ensures
