use Rattle.std.proofs.{Common.{sym, subst, arith}, lemmas.List.{nil_from_length}}
use Rattle.replication_workers.{specs.KeptSlots.{HasKept}, proofs.{Along.{Along, along_all, along_first, along_more}, Filling.{kept_more, kept_none}}}
use Rattle.replication_workers.proofs.dispatcher.filling.keep_inline.Goals as goal

pub loop-replicator-init : goal.loop-replicator-init
loop-replicator-init g c =
    let before = c.args.kept.now.items in (
      subst (λ rest. Along (λ done slots. HasKept done before slots) c.args.slots.items rest before) (sym c.into_iter-rest.ensures.rest)
          (along_first (λ done slots. HasKept done before slots) c.args.slots.items before (kept_none before)),
      omega (arith, c.requires, c.args.kept.now.ok.0, c.args.slots.ok.0, c.into_iter-rest.ensures.len),
    )

pub push_reserved-requires : goal.push_reserved-requires
push_reserved-requires g c = omega (arith, c.in-Some.ensures.cases.1, c.loop-replicator.invariant.1)

pub loop-replicator-smaller : goal.loop-replicator-smaller
loop-replicator-smaller g c = omega (arith, c.in-Some.ensures.cases.1)

pub loop-replicator-preserved : goal.loop-replicator-preserved
loop-replicator-preserved g c =
    let so_far = c.loop-replicator.invariant.0 in
    let put = c.push_reserved.ensures in
    let new = c.new.ensures in (
      along_more _ _ _ _ _ _ c.in-Some.replicator so_far c.in-Some.ensures.cases.0 (kept_more _ c.in-Some.replicator _ _ _ _ so_far.so put.items (λ i. record { first = new.first i; jobs = new.jobs i }) new.now),
      omega (arith, c.in-Some.ensures.cases.1, put.len, put.capacity, c.loop-replicator.invariant.1),
    )

pub returns : goal.returns
returns g c = along_all _ _ _ _ c.loop-replicator.invariant.0 (nil_from_length _ (omega (arith, c.in_default.ensures.cases.0, c.loop-replicator.rest.rest.ok.0)))
