use Rattle.std.proofs.Common.{◌≤◌, ◌+◌, ◌∙◌, ap, length, map, refl, subst, sym, arith}
use Rattle.amt_ports.specs.Causes.{Rose}
use Rattle.replication_workers.{specs.{Gathering.{HasRoom}, SlotStates.{new_slot}, Slots.{from_the_end}, Starting.{HaveStarted}}, proofs.{Ending.{less_room}, Filling.{filled_few, filled_idle, filled_length}, Ready.{length-from_the_end}}}
use Rattle.replication_workers.proofs.dispatcher.starting.start_workers.Goals as goal

pub destroy_empty-requires : goal.destroy_empty-requires
destroy_empty-requires g c = c.args.kept.ok.0 ∙ ap length c.requires.none

pub returns-in_default-clause-memory : goal.returns-in_default-clause-memory
returns-in_default-clause-memory g c = c.from.ensures ∙ c.in_default.ensures.back ∙ c.into_items-slots.ensures

pub returns-in_default-clause-before : goal.returns-in_default-clause-before
returns-in_default-clause-before g c = (refl, refl)

pub start_each-requires : goal.start_each-requires
start_each-requires g c =
    record { none = c.requires.none; room = omega (arith, ap length (c.in-Ok.ensures.ready ∙ c.into_items-slots.ensures), length-from_the_end c.in-Ok.ready.items, c.requires.places) }

pub invariant_of-result : goal.invariant_of-result
invariant_of-result g c =
    let started = c.in-Ok-start_each.ensures.started in
    let kept = c.start_each.new.kept.items in
    let states = started.states ∙ ap (map new_slot) (c.in-Ok.ensures.ready ∙ c.into_items-slots.ensures) in
    let long = filled_length c.args.slots kept states in record {
      kinds = started.kind;
      some = omega (arith, long, c.requires.some);
      few_slots = omega (arith, long, c.requires.few);
      few_jobs = filled_few c.args.slots kept states;
      fresh = c.requires.fresh;
      room = subst (λ count. HasRoom count c.args.gathered) (sym long) c.requires.room;
    }

pub give_back-outs-requires : goal.give_back-outs-requires
give_back-outs-requires g c =
    let all = ap length (c.in-Ok.ensures.ready ∙ c.into_items-slots.ensures) in
    let ready = length-from_the_end c.in-Ok.ready.items in
    let each = c.start_each.ensures in
    let started = c.in-Err.ensures.refused.started in
    let fewer : length c.start_each.new.kept.items + length c.start_each.new.ready.items ≤ length c.args.slots = omega (arith, each.taken, all, ready) in record {
      none = c.in-Ok.ensures.none;
      room_back = omega (arith, each.taken, all, ready, ap length c.into_items-slots.ensures, c.ready_all.ensures.room, c.into_items-slots.result.ok.0, c.into_items-slots.result.ok.1);
      places = omega (arith, fewer, each.room, c.requires.places);
      fresh = c.requires.fresh;
      room = less_room _ _ c.args.gathered fewer c.requires.room;
      idle = filled_idle _ c.start_each.new.kept.items started.states;
      run = started.run;
    }

pub returns-in-Ok-start_each : goal.returns-in-Ok-start_each
returns-in-Ok-start_each g c =
    let all = c.in-Ok.ensures.ready ∙ c.into_items-slots.ensures in
    let each = c.in-Ok-start_each.ensures in record {
      slots = each.started.states ∙ ap (map new_slot) all;
      mode = refl;
      run = each.started.run;
      starts = subst (λ count. HaveStarted count (g.P.Spawner.starts c.args.spawner.now) (g.P.Spawner.starts c.start_each.new.spawner)) (sym (length-from_the_end c.in-Ok.ready.items) ∙ ap length all) each.starts;
      quiet = each.cause.quiet;
      memory = tt;
      before = tt;
      failed = tt;
      cause = tt;
    }

pub returns-in-Err-clause-failed : goal.returns-in-Err-clause-failed
returns-in-Err-clause-failed g c =
    let refused = c.in-Err.ensures.refused in record {
      earlier = refused.earlier;
      refused = refused.refused;
      later = from_the_end c.start_each.new.ready.items;
      given_are = sym (c.in-Ok.ensures.ready ∙ c.into_items-slots.ensures) ∙ refused.all_are;
      started = subst (HaveStarted _ _) (sym c.give_back-outs.ensures.starts) refused.counted;
      back = c.give_back-outs.ensures.back refused.earlier refused.started.states;
    }

pub returns-in-Err-clause-cause : goal.returns-in-Err-clause-cause
returns-in-Err-clause-cause g c = subst (Rose (g.P.Spawner.faults c.args.spawner.now)) (sym c.give_back-outs.ensures.faults) c.in-Err.ensures.cause.failed
