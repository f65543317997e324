use Rattle.std.proofs.{Common.{◌≡◌, ◌∙◌, ℕ, suc, vec_len, [], refl, sym, ap, subst, arith, length}, lemmas.List.{nil_from_length, Elements.{All-nil}}}
use Rattle.replication_workers.{specs.{KeptSlots.{AreStarted}, Slots.{from_the_end}, Starting.{HaveStarted}}, proofs.{Along.{along_all, along_first, along_more, with_next}, Filling.{filled_length, none_started, one_started, started_more}, Ready.{from_the_end-last}}}
use Rattle.replication_workers.proofs.dispatcher.filling.start_each.Goals as goal

pub loop-one-init : goal.loop-one-init
loop-one-init g c =
    let none = c.args.kept.now.ok.0 ∙ ap length c.requires.none in
    let starts = g.P.Spawner.starts c.args.spawner.now in record {
      along = along_first (AreStarted g.P.Spawner.task_of) _ _ (subst (AreStarted g.P.Spawner.task_of []) (sym c.requires.none) (record { states = refl; kind = All-nil _; run = All-nil _ }));
      counted = subst (λ (count : ℕ). HaveStarted count starts starts) (sym none) (none_started starts);
      quiet = refl;
      number = omega (arith, none);
      room = refl;
    }

pub push_reserved-requires : goal.push_reserved-requires
push_reserved-requires g c =
    let so_far = c.loop-one.invariant in omega (arith, c.in-Some.ensures.cases, so_far.number, so_far.room, c.requires.room, c.args.ready.now.ok.0)

pub loop-one-smaller : goal.loop-one-smaller
loop-one-smaller g c = omega (arith, c.in-Some.ensures.cases)

pub loop-one-preserved : goal.loop-one-preserved
loop-one-preserved g c =
    let so_far = c.loop-one.invariant in
    let put = c.push_reserved.ensures in
    let started = c.in-Ok.ensures.started in
    let longer : suc (vec_len c.loop-one.kept) ≡ vec_len c.push_reserved.new.self = omega (arith, put.len) in
    let left = ap (λ ready. from_the_end ready) c.in-Some.ensures.items ∙ from_the_end-last c.pop.new.self.items c.in-Some.one in record {
      along = along_more _ _ _ _ _ _ _ so_far.along left
          (started_more _ _ _ _ _ _ so_far.along.so put.items (λ i. record { first = (ap (λ worker. worker.replicator) started.1) i; jobs = started.2 i }) refl started.0);
      counted = subst (λ (count : ℕ). HaveStarted count (g.P.Spawner.starts c.args.spawner.now) (g.P.Spawner.starts c.start_slot.new.spawner)) longer (one_started _ _ _ _ so_far.counted c.in-Ok.ensures.counted);
      quiet = c.in-Ok.ensures.cause.quiet ∙ so_far.quiet;
      number = omega (arith, c.in-Some.ensures.cases, put.len, so_far.number);
      room = put.capacity ∙ so_far.room;
    }

pub returns-in-Err-clause-refused : goal.returns-in-Err-clause-refused
returns-in-Err-clause-refused g c =
    let so_far = c.loop-one.invariant in
    let left = ap (λ ready. from_the_end ready) c.in-Some.ensures.items ∙ from_the_end-last c.pop.new.self.items c.in-Some.one in
    let started = so_far.along.so in record {
      earlier = so_far.along.done;
      refused = _;
      all_are = with_next _ _ _ _ _ _ so_far.along left;
      started = started;
      counted = subst (HaveStarted _ _) (sym c.in-Err.ensures.kept)
          (subst (λ (count : ℕ). HaveStarted count (g.P.Spawner.starts c.args.spawner.now) (g.P.Spawner.starts c.loop-one.spawner)) (c.loop-one.kept.ok.0 ∙ filled_length _ _ started.states) so_far.counted);
    }

pub returns-clause-started : goal.returns-clause-started
returns-clause-started g c =
    along_all _ _ _ _ c.loop-one.invariant.along (ap (λ ready. from_the_end ready) (nil_from_length c.loop-one.ready.items (omega (arith, c.in_default.ensures.cases.0, c.loop-one.ready.ok.0))))
