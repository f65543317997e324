use Rattle.std.proofs.Common.{◌++◌, ap, sym, subst, ◌∙◌}
use Rattle.crossbeam_channel.specs.Claims.{view}
use Rattle.replication_workers.{specs.{declared.queue.End.{End}, Queue.{StopIsLast}}, proofs.{Queues.{took_all}, Steps.{merges, totals}}}
use Rattle.replication_workers.proofs.queue.ending.take_in.Goals as goal

pub absorb-requires-clause-rule : goal.absorb-requires-clause-rule
absorb-requires-clause-rule c = merges _ _ _ _ c.requires.stopped.puts c.requires.ended.takes

pub learn_as-requires-clause-rule : goal.learn_as-requires-clause-rule
learn_as-requires-clause-rule c =
    totals _ _ (ap (λ (end : End). end.puts) c.absorb.ensures.rule) (ap (λ (end : End). end.takes) c.absorb.ensures.rule)

pub returns : goal.returns
returns c =
    let both = c.absorb.ensures.rule in
    let learnt = c.learn_as.ensures.rule in
    took_all (view c.args.pass) (view c.args.ended) learnt.0 c.requires.ended
    (sym (ap (λ (end : End). end.put) both) ∙ learnt.1.0 ∙ ap (λ (end : End). end.taken ++ learnt.0) both)
    (subst StopIsLast (ap (λ (end : End). end.put) both) learnt.1.1)
