use Rattle.replication_workers.proofs.Handling.{has_copied, keeps_handled}
use Rattle.replication_workers.proofs.counts.handling.handle.Goals as goal

pub returns-clause-copied : goal.returns-clause-copied
returns-clause-copied g c =
    let done = c.copy-copied.ensures in has_copied _ _ _ _ _ done.view done.further done.told done.sends

pub returns-clause-handled : goal.returns-clause-handled
returns-clause-handled g c =
    let now = c.args.replicator.now in
    let next = c.copy-copied.new.replicator in
    let done = c.copy-copied.ensures in
    keeps_handled now next c.args.counts.now c.add.new.self c.args.job _ _ c.add.ensures.sent c.add.ensures.unsent done.few (has_copied now next c.args.job _ _ done.view done.further done.told done.sends) done.sends
