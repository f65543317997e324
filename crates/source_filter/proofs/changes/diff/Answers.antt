use Rattle.std.proofs.lemmas.Result.{IfOk-weaker}
use Rattle.source_filter.proofs.AppliedChanges.{changes-applied}
use Rattle.source_filter.proofs.changes.diff.Goals as goal

pub returns-clause-applied : goal.returns-clause-applied
returns-clause-applied c =
    IfOk-weaker _ _ _ (changes-applied c.args.old.now c.args.new.now c.args.group.now c.changes.ensures.old c.changes.ensures.new) c.changes.ensures.records
