use Rattle.std.proofs.Common.{◌++◌, ◌∷◌, [], ◌∙◌, ap, arith, length, length-append}
use Rattle.replication_workers.{specs.Slots.{from_the_end}, proofs.Ready.{from_the_end-last}}
use Rattle.replication_workers.proofs.dispatcher.readying.ready_one.Goals as goal

pub returns-in-Ok-clause-ready : goal.returns-in-Ok-clause-ready
returns-in-Ok-clause-ready g c =
    let before = c.args.ready.now.items in
    ap (λ ready. from_the_end ready) c.push_reserved.ensures.items ∙ from_the_end-last before c.in-Ok.one ∙ ap (λ first. first ∷ from_the_end before) c.in-Ok.ensures

pub returns-in-Ok-clause-number : goal.returns-in-Ok-clause-number
returns-in-Ok-clause-number g c =
    let before = c.args.ready.now.items in
    omega (arith, ap length c.push_reserved.ensures.items, length-append before (c.in-Ok.one ∷ []))

pub returns-in-Err-clause-back : goal.returns-in-Err-clause-back
returns-in-Err-clause-back g c =
    c.push_reserved-in-Err.ensures.items ∙ ap (λ last. c.args.slots.now.items ++ last ∷ []) c.in-Err.ensures
