use Rattle.std.proofs.{Common.{◌++◌, ◌∷◌, [], ◌∙◌, map, reverse, refl, sym, ap, append-nil, arith}, lemmas.{List.{nil_from_length}, Option.{MatchOption-at_none, MatchOption-at_some}}}
use Rattle.replication_workers.{specs.Replicators.{out_of}, proofs.Ready.{popped}}
use Rattle.relay_serving.proofs.Starting.{turned_by}
use Rattle.relay_serving.proofs.server.starting.unmake.Goals as goal

pub loop-replicator-init : goal.loop-replicator-init
loop-replicator-init g c = (refl, omega (arith, c.requires.room, c.args.outs.now.ok.0, c.args.made.now.ok.0))

pub push_reserved-requires : goal.push_reserved-requires
push_reserved-requires g c =
    let at = MatchOption-at_some _ _ _ c.in-Some.is c.pop.ensures.cases in
    omega (arith, at, c.loop-replicator.invariant.1)

pub loop-replicator-smaller : goal.loop-replicator-smaller
loop-replicator-smaller g c =
    let at = MatchOption-at_some _ _ _ c.in-Some.is c.pop.ensures.cases in
    omega (arith, at)

pub loop-replicator-preserved : goal.loop-replicator-preserved
loop-replicator-preserved g c =
    let at = MatchOption-at_some _ _ _ c.in-Some.is c.pop.ensures.cases in
    let put = c.push_reserved.ensures in (
      turned_by out_of _ _ c.loop-replicator.outs.items _ c.in-Some.replicator (popped _ _ _ _ c.pop.ensures.items c.in-Some.is)
          (put.items ∙ ap (λ last. c.loop-replicator.outs.items ++ last ∷ []) c.into_parts-view.ensures.out) ∙ c.loop-replicator.invariant.0,
      omega (arith, at, put.len, put.capacity, c.loop-replicator.invariant.1),
    )

pub returns-clause-outs : goal.returns-clause-outs
returns-clause-outs g c =
    let at = MatchOption-at_none _ _ c.in_default.is c.pop.ensures.cases in
    sym (append-nil c.loop-replicator.outs.items)
    ∙ ap (λ made. c.loop-replicator.outs.items ++ map out_of (reverse made)) (sym (nil_from_length c.loop-replicator.made.items (omega (arith, at.0, c.loop-replicator.made.ok.0))))
    ∙ c.loop-replicator.invariant.0

pub returns-clause-none : goal.returns-clause-none
returns-clause-none g c =
    let at = MatchOption-at_none _ _ c.in_default.is c.pop.ensures.cases in
    nil_from_length _ (omega (arith, at.1, c.pop.new.self.ok.0))
