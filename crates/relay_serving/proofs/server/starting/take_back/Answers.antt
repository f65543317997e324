use Rattle.std.proofs.{Common.{◌++◌, ◌∙◌, length, map, reverse, ap, arith}, lemmas.List.{length-reverse, reverse-reverse}}
use Rattle.replication_workers.specs.Replicators.{out_of}
use Rattle.relay_serving.proofs.server.starting.take_back.Goals as goal

pub unmake-requires : goal.unmake-requires
unmake-requires g c =
    let turned = c.turn_round.ensures.turned ∙ ap (λ list. list ++ reverse c.into_items.result.items) c.requires.none.0 in
    record { room = omega (arith, ap length turned, length-reverse c.into_items.result.items, ap length c.into_items.ensures, ap length c.requires.none.1, c.requires.room.1) }

pub returns : goal.returns
returns g c =
    let turned = c.turn_round.ensures.turned ∙ (λ i. c.requires.none.0 i ++ reverse (c.into_items.ensures i)) in
    c.from.ensures ∙ c.unmake.ensures.outs ∙ (λ i. c.requires.none.1 i ++ map out_of (reverse (turned i))) ∙ ap (λ list. map out_of list) (reverse-reverse c.args.slots)
