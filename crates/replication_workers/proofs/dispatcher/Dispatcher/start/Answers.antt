use Rattle.std.proofs.Common.{◌≡◌, ◌∙◌, IfOk, refl, subst, sym, true≢false, arith}
use Rattle.replication_workers.{specs.{Dispatchers.{is_threaded}, Gathering.{HasRoom}}, proofs.Filling.{inline_runs, on_failed_also}}
use Rattle.replication_workers.proofs.dispatcher.Dispatcher.start.Goals as goal

pub start_workers-requires : goal.start_workers-requires
start_workers-requires g c = record {
  some = c.requires.some;
  few = c.requires.few;
  none = c.in-Ok-with_capacity.ensures.items;
  places = omega (arith, c.in-Ok-with_capacity.ensures.exact, c.len-2.ensures);
  fresh = c.in-Ok.ensures.none;
  room = subst (λ count. HasRoom count c.in-Ok.gathered) c.len.ensures c.in-Ok.ensures.room;
}

pub keep_all-requires : goal.keep_all-requires
keep_all-requires g c = record {
  some = c.requires.some;
  few = c.requires.few;
  none = c.in-Ok-with_capacity.ensures.items;
  places = omega (arith, c.in-Ok-with_capacity.ensures.exact, c.len-2.ensures);
  fresh = c.in-Ok.ensures.none;
  room = subst (λ count. HasRoom count c.in-Ok.gathered) c.len.ensures c.in-Ok.ensures.room;
}

pub returns-then-threads : goal.returns-then-threads
returns-then-threads g c =
    let made = c.start_workers.ensures in record {
      slots = made.slots;
      mode = subst (λ threads. IfOk c.start_workers.result (λ made. is_threaded made ≡ threads)) (sym c.if-threads.true) made.mode;
      held = λ none. absurd (true≢false (sym c.if-threads.true ∙ none));
      run = made.run;
      starts = λ _. made.starts;
      none_started = λ none. absurd (true≢false (sym c.if-threads.true ∙ none));
      quiet = made.quiet;
      memory = made.memory;
      before = made.before;
      failed = made.failed;
      cause = on_failed_also c.start_workers.result _ _ c.if-threads.true made.cause;
    }

pub returns-else-threads : goal.returns-else-threads
returns-else-threads g c =
    let made = c.keep_all.ensures in record {
      slots = made.slots;
      mode = made.mode ∙ sym c.if-threads.false;
      held = λ none. made.held;
      run = inline_runs g.P.Spawner.task_of _ _ c.keep_all.result.kinds made.mode;
      starts = λ threads. absurd (true≢false (sym threads ∙ c.if-threads.false));
      none_started = λ none. refl;
      quiet = refl;
      memory = tt;
      before = tt;
      failed = tt;
      cause = tt;
    }
