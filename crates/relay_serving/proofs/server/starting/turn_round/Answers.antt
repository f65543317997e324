use Rattle.std.proofs.{Common.{◌++◌, ◌∙◌, reverse, refl, sym, ap, append-nil, arith}, lemmas.{List.{nil_from_length}, Option.{MatchOption-at_none, MatchOption-at_some}}}
use Rattle.replication_workers.proofs.Ready.{popped}
use Rattle.relay_serving.proofs.Starting.{turned_on}
use Rattle.relay_serving.proofs.server.starting.turn_round.Goals as goal

pub loop-replicator-init : goal.loop-replicator-init
loop-replicator-init g c = (refl, omega (arith, c.requires.room, c.args.from.now.ok.0, c.args.to.now.ok.0), refl, refl)

pub push_reserved-requires : goal.push_reserved-requires
push_reserved-requires g c =
    let at = MatchOption-at_some _ _ _ c.in-Some.is c.pop.ensures.cases in
    omega (arith, at, c.loop-replicator.invariant.1)

pub loop-replicator-smaller : goal.loop-replicator-smaller
loop-replicator-smaller g c =
    let at = MatchOption-at_some _ _ _ c.in-Some.is c.pop.ensures.cases in
    omega (arith, at)

pub loop-replicator-preserved : goal.loop-replicator-preserved
loop-replicator-preserved g c =
    let at = MatchOption-at_some _ _ _ c.in-Some.is c.pop.ensures.cases in
    let put = c.push_reserved.ensures in (
      turned_on _ _ c.loop-replicator.to.items _ c.in-Some.replicator (popped _ _ _ _ c.pop.ensures.items c.in-Some.is) put.items ∙ c.loop-replicator.invariant.0,
      omega (arith, at, put.len, put.capacity, c.loop-replicator.invariant.1),
      put.capacity ∙ c.loop-replicator.invariant.2,
      c.pop.ensures.capacity ∙ c.loop-replicator.invariant.3,
    )

pub returns-clause-turned : goal.returns-clause-turned
returns-clause-turned g c =
    let at = MatchOption-at_none _ _ c.in_default.is c.pop.ensures.cases in
    sym (append-nil c.loop-replicator.to.items)
    ∙ ap (λ from. c.loop-replicator.to.items ++ reverse from) (sym (nil_from_length c.loop-replicator.from.items (omega (arith, at.0, c.loop-replicator.from.ok.0))))
    ∙ c.loop-replicator.invariant.0

pub returns-clause-none : goal.returns-clause-none
returns-clause-none g c =
    let at = MatchOption-at_none _ _ c.in_default.is c.pop.ensures.cases in
    nil_from_length _ (omega (arith, at.1, c.pop.new.self.ok.0))

pub returns-clause-room : goal.returns-clause-room
returns-clause-room g c = (c.loop-replicator.invariant.2, c.pop.ensures.capacity ∙ c.loop-replicator.invariant.3)
