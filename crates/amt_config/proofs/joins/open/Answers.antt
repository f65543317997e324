use Rattle.std.proofs.Common.{◌<◌, length, ap, arith}
use Rattle.amt_config.proofs.OpenedJoins.{more_refused, refused_or}
use Rattle.amt_config.proofs.joins.open.Goals as goal

pub returns-then-sources-gt-ITEM_LIMIT-clause-fault : goal.returns-then-sources-gt-ITEM_LIMIT-clause-fault
returns-then-sources-gt-ITEM_LIMIT-clause-fault c = λ history stands.
    let more : 32 < length c.args.join.now.filter.sources = omega (arith, ap length c.sources.ensures.listed) in
    refused_or history c.args.join.now c.told.result (more_refused history c.args.join.now more) c.told.ensures
