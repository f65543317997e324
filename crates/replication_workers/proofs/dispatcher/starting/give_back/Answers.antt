use Rattle.std.proofs.{Common.{◌≡◌, ◌+◌, ◌++◌, ◌∙◌, ap, length, map, subst, sym, arith}, lemmas.List.{map-append}}
use Rattle.published_table.specs.Views.{views_of}
use Rattle.replication_workers.{specs.{Backs.{AreBack}, Gathering.{HasRoom}, Slots.{from_the_end}, SlotStates.{new_slot}}, proofs.{Backs.{are_back}, Filling.{kept_few, kept_length}, Ready.{length-from_the_end}}}
use Rattle.replication_workers.proofs.dispatcher.starting.give_back.Goals as goal

pub unready-requires : goal.unready-requires
unready-requires g c = record { room = omega (arith, ap length c.requires.none, c.requires.room_back) }

pub keep_inline-requires : goal.keep_inline-requires
keep_inline-requires g c =
    let back = c.unready.ensures.slots ∙ ap (λ slots. slots ++ from_the_end c.args.ready.items) c.requires.none in
    omega (arith, ap length back, length-from_the_end c.args.ready.items, c.requires.places)

pub finish_all-outs-requires : goal.finish_all-outs-requires
finish_all-outs-requires g c =
    let back = c.unready.ensures.slots ∙ ap (λ slots. slots ++ from_the_end c.args.ready.items) c.requires.none in
    let kept = c.keep_inline.ensures in
    let long : length c.args.kept.items + length c.args.ready.items ≡ length c.keep_inline.new.kept.items = omega (arith, kept_length _ _ _ kept, ap length back, length-from_the_end c.args.ready.items) in
    record { fresh = c.requires.fresh; room = subst (λ count. HasRoom count c.args.gathered) long c.requires.room; few = kept_few _ _ _ kept c.requires.idle; run = kept.run g.P.Spawner.task_of c.requires.run }

pub returns-clause-back : goal.returns-clause-back
returns-clause-back g c = λ given states.
    let back = c.unready.ensures.slots ∙ ap (λ slots. slots ++ from_the_end c.args.ready.items) c.requires.none in
    let left = from_the_end c.args.ready.items in
    subst (λ outs. AreBack (given ++ left) outs (views_of c.finish_all-outs.result.views)) (sym c.from.ensures)
    (are_back (given ++ left) _ _ _ _ _ c.finish_all-outs.ensures.ended.left (c.keep_inline.ensures.states ∙ (λ i. states i ++ map new_slot (back i)) ∙ sym (map-append new_slot given left)))
