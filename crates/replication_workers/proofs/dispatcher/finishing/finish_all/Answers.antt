use Rattle.std.{proofs.{Common.{◌∙◌, length, refl, sym, subst, ap, arith}, lemmas.List.{nil_from_length, Elements.{All-head, All-rest}}}, specs.List.{All}}
use Rattle.replication_workers.{specs.{Gathering.{HasRoom, HaveEnded}, KeptSlots.{IsRunBy}}, proofs.{Along.{Along, along_all, along_first, along_more, with_next}, Ending.{ended_more, ended_none, few_with, less_room}}}
use Rattle.replication_workers.proofs.dispatcher.finishing.finish_all.Goals as goal

pub loop-one-init : goal.loop-one-init
loop-one-init g c =
    let is = sym c.into_iter-rest.ensures.rest in record {
      along = subst (λ rest. Along HaveEnded c.args.kept.items rest c.args.gathered) is (along_first HaveEnded c.args.kept.items c.args.gathered (ended_none c.args.gathered c.requires.fresh));
      room = subst (λ rest. HasRoom (length rest) c.args.gathered) is c.requires.room;
      run = subst (All (IsRunBy g.P.Spawner.task_of)) is c.requires.run;
      starts = refl;
      faults = refl;
    }

pub finish_kept-requires : goal.finish_kept-requires
finish_kept-requires g c = All-head (IsRunBy g.P.Spawner.task_of) c.in-Some.one _ (subst (All (IsRunBy g.P.Spawner.task_of)) c.in-Some.ensures.cases.0 c.loop-one.invariant.run)

pub add-requires : goal.add-requires
add-requires g c =
    let so_far = c.loop-one.invariant in
    let next = c.in-Some.ensures.cases.0 in
    let left = c.finish_kept.ensures.left in record {
      room = less_room 1 _ c.loop-one.gathered (omega (arith, ap length next)) so_far.room;
      jobs = few_with _ _ _ _ _ _ so_far.along.so left (with_next _ _ _ _ _ _ so_far.along next) c.requires.few;
      few = left.few;
    }

pub loop-one-smaller : goal.loop-one-smaller
loop-one-smaller g c = omega (arith, c.in-Some.ensures.cases.1)

pub loop-one-preserved : goal.loop-one-preserved
loop-one-preserved g c =
    let so_far = c.loop-one.invariant in
    let next = c.in-Some.ensures.cases.0 in
    let ended = c.finish_kept.ensures in record {
      along = along_more _ _ _ _ _ _ c.in-Some.one so_far.along next (ended_more _ _ _ c.in-Some.one c.finish_kept.result so_far.along.so ended.left ended.out ended.view c.add.ensures.added);
      room = c.add.ensures.room _ (subst (λ rest. HasRoom (length rest) c.loop-one.gathered) next so_far.room);
      run = All-rest (IsRunBy g.P.Spawner.task_of) c.in-Some.one _ _ next so_far.run;
      starts = ended.starts ∙ so_far.starts;
      faults = ended.faults ∙ so_far.faults;
    }

pub destroy_empty-requires : goal.destroy_empty-requires
destroy_empty-requires g c = c.in_default.ensures.cases.1

pub returns : goal.returns
returns g c =
    let so_far = c.loop-one.invariant in
    record { ended = along_all _ _ _ _ so_far.along (nil_from_length _ (omega (arith, c.in_default.ensures.cases.0, c.loop-one.rest.rest.ok.0))); starts = so_far.starts; faults = so_far.faults }
