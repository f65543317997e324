use Rattle.std.proofs.{Common.{◌++◌, ◌∷◌, [], ◌∙◌, refl, sym, ap, length, append-nil, arith, length-append}, lemmas.List.{nil_from_length}}
use Rattle.replication_workers.{specs.Slots.{from_the_end}, proofs.Ready.{put_back, put_on}}
use Rattle.replication_workers.proofs.dispatcher.readying.ready_each.Goals as goal

pub loop-replicator-init : goal.loop-replicator-init
loop-replicator-init g c =
    let none = c.args.ready.now.ok.0 ∙ ap length c.requires.none in (
      ap (λ ready. c.args.slots.now.items ++ from_the_end ready) c.requires.none ∙ append-nil c.args.slots.now.items,
      omega (arith, none),
      refl,
      refl,
    )

pub ready_one-requires : goal.ready_one-requires
ready_one-requires g c =
    let at = c.in-Some.ensures.cases in
    record {
      room = (
        omega (arith, at, c.pop.ensures.capacity, c.pop.new.self.ok.0, c.loop-replicator.slots.ok.1),
        omega (arith, at, c.loop-replicator.ready.ok.0, c.loop-replicator.invariant.1, c.loop-replicator.invariant.3, c.requires.room, c.args.slots.now.ok.0),
      );
    }

pub loop-replicator-smaller : goal.loop-replicator-smaller
loop-replicator-smaller g c = omega (arith, c.in-Some.ensures.cases, ap length c.in-Ok.ensures.others, c.pop.new.self.ok.0, c.ready_one.new.slots.ok.0)

pub loop-replicator-preserved : goal.loop-replicator-preserved
loop-replicator-preserved g c =
    let one = c.in-Ok.ensures in (
      put_on _ _ _ _ _ c.in-Some.replicator c.in-Some.ensures.items one.others one.ready ∙ c.loop-replicator.invariant.0,
      omega (arith, c.in-Some.ensures.cases, ap length one.others, one.number, c.pop.new.self.ok.0, c.ready_one.new.slots.ok.0, c.ready_one.new.ready.ok.0, c.loop-replicator.ready.ok.0, c.loop-replicator.invariant.1),
      c.ready_one.ensures.capacity.0 ∙ c.pop.ensures.capacity ∙ c.loop-replicator.invariant.2,
      c.ready_one.ensures.capacity.1 ∙ c.loop-replicator.invariant.3,
    )

pub returns-in-Err : goal.returns-in-Err
returns-in-Err g c =
    let back = c.in-Err.ensures in record {
      all = put_back _ _ _ _ _ c.in-Some.replicator c.in-Some.ensures.items back.back (ap (λ ready. from_the_end ready) back.kept) ∙ c.loop-replicator.invariant.0;
      ok = tt;
      number = omega (arith, c.in-Some.ensures.cases, ap length back.back, length-append c.pop.new.self.items (c.in-Some.replicator ∷ []), ap length back.kept, c.pop.new.self.ok.0, c.loop-replicator.ready.ok.0, c.args.slots.now.ok.0, c.loop-replicator.invariant.1);
      room = c.ready_one.ensures.capacity.0 ∙ c.pop.ensures.capacity ∙ c.loop-replicator.invariant.2;
    }

pub returns : goal.returns
returns g c =
    let none = c.in_default.ensures in record {
      all = ap (λ slots. slots ++ from_the_end c.loop-replicator.ready.items) (sym (none.items ∙ append-nil c.pop.new.self.items)) ∙ c.loop-replicator.invariant.0;
      ok = nil_from_length _ (omega (arith, none.cases.1, c.pop.new.self.ok.0));
      number = omega (arith, none.cases, c.pop.new.self.ok.0, c.loop-replicator.ready.ok.0, c.args.slots.now.ok.0, c.loop-replicator.invariant.1);
      room = c.pop.ensures.capacity ∙ c.loop-replicator.invariant.2;
    }
