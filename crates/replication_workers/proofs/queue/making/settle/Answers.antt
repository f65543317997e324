use Rattle.std.proofs.Common.{◌∙◌, ap, sym, subst}
use Rattle.replication_workers.{specs.{Queue.{MayPut, with_put}, declared.queue.{End.{End}, Item.TheVariants.{Home}}}, proofs.Queues.{may_settle}}
use Rattle.replication_workers.proofs.queue.making.settle.Goals as goal

pub put-requires-clause-may : goal.put-requires-clause-may
put-requires-clause-may g c = subst (λ (known : End). MayPut known (Home c.args.home)) (sym c.requires.new) (may_settle c.args.home)

pub returns-clause-settled : goal.returns-clause-settled
returns-clause-settled g c = c.put.ensures.put ∙ ap (λ (known : End). with_put known (Home c.args.home)) c.requires.new
