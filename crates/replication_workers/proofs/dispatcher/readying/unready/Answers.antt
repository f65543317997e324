use Rattle.std.proofs.{Common.{◌++◌, ◌∷◌, [], ◌∙◌, refl, sym, ap, append-nil, arith}, lemmas.List.{nil_from_length}}
use Rattle.replication_workers.{specs.Slots.{from_the_end}, proofs.Ready.{moved_back}}
use Rattle.replication_workers.proofs.dispatcher.readying.unready.Goals as goal

pub loop-one-init : goal.loop-one-init
loop-one-init g c = (refl, omega (arith, c.requires.room, c.args.slots.now.ok.0, c.args.ready.now.ok.0), refl)

pub push_reserved-requires : goal.push_reserved-requires
push_reserved-requires g c = omega (arith, c.in-Some.ensures.cases, c.loop-one.invariant.1)

pub loop-one-smaller : goal.loop-one-smaller
loop-one-smaller g c = omega (arith, c.in-Some.ensures.cases)

pub loop-one-preserved : goal.loop-one-preserved
loop-one-preserved g c =
    let put = c.push_reserved.ensures in (
      moved_back _ _ _ _ c.in-Some.one c.in-Some.ensures.items (put.items ∙ ap (λ last. c.loop-one.slots.items ++ last ∷ []) c.into_replicator.ensures) ∙ c.loop-one.invariant.0,
      omega (arith, c.in-Some.ensures.cases, put.len, put.capacity, c.loop-one.invariant.1),
      put.capacity ∙ c.loop-one.invariant.2,
    )

pub returns : goal.returns
returns g c =
    let none = c.in_default.ensures.cases in record {
      slots = sym (append-nil c.loop-one.slots.items)
          ∙ ap (λ ready. c.loop-one.slots.items ++ from_the_end ready) (sym (nil_from_length c.loop-one.ready.items (omega (arith, none.0, c.loop-one.ready.ok.0)))) ∙ c.loop-one.invariant.0;
      none = nil_from_length _ (omega (arith, none.1, c.pop.new.self.ok.0));
      room = c.loop-one.invariant.2;
    }
