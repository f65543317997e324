use Rattle.std.proofs.{Common.{◌∙◌, ap, length, map, refl, subst, sym, arith}, lemmas.List.Elements.{All-nil}}
use Rattle.replication_workers.{specs.{Gathering.{HasRoom}, KeptSlots.{HasKept}, SlotStates.{new_slot}}, proofs.Filling.{filled_few, filled_length}}
use Rattle.replication_workers.proofs.dispatcher.starting.keep_all.Goals as goal

pub keep_inline-requires : goal.keep_inline-requires
keep_inline-requires g c = omega (arith, ap length c.requires.none, ap length c.into_items.ensures, c.requires.places)

pub invariant_of-result : goal.invariant_of-result
invariant_of-result g c =
    let kept = subst (λ before. HasKept c.into_items.result.items before c.keep_inline.new.kept.items) c.requires.none c.keep_inline.ensures in
    let states = kept.states ∙ ap (map new_slot) c.into_items.ensures in
    let long = filled_length c.args.slots c.keep_inline.new.kept.items states in record {
      kinds = kept.kinds (All-nil _);
      some = omega (arith, long, c.requires.some);
      few_slots = omega (arith, long, c.requires.few);
      few_jobs = filled_few c.args.slots c.keep_inline.new.kept.items states;
      fresh = c.requires.fresh;
      room = subst (λ count. HasRoom count c.args.gathered) (sym long) c.requires.room;
    }

pub returns : goal.returns
returns g c =
    let kept = subst (λ before. HasKept c.into_items.result.items before c.keep_inline.new.kept.items) c.requires.none c.keep_inline.ensures in
    record { slots = kept.states ∙ ap (map new_slot) c.into_items.ensures; mode = refl; held = kept.now ∙ c.into_items.ensures }
