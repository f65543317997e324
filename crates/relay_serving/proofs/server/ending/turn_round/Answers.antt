use Rattle.std.proofs.{Common.{◌++◌, ◌∙◌, length, reverse, sym, ap, append-nil, arith}, lemmas.Option.{MatchOption-at_none, MatchOption-at_some}}
use Rattle.published_table.specs.Views.{views_of}
use Rattle.relay_serving.proofs.{Ending.{of_ok, one_fewer}, Starting.{turned_on}}
use Rattle.relay_serving.proofs.server.ending.turn_round.Goals as goal

pub loop-view-init : goal.loop-view-init
loop-view-init c =
    (ap (λ to. to ++ reverse (views_of c.args.from.now)) c.requires.none, omega (arith, ap length c.requires.none, c.requires.room))

pub loop-view-smaller : goal.loop-view-smaller
loop-view-smaller c =
    let one = one_fewer _ _ _ (MatchOption-at_some _ _ _ c.in-Some.is c.pop.ensures.some) in
    omega (arith, one)

pub loop-view-preserved : goal.loop-view-preserved
loop-view-preserved c =
    let popped = MatchOption-at_some _ _ _ c.in-Some.is c.pop.ensures.some in
    let one = one_fewer _ _ _ popped in
    let put = of_ok c.push.result (c.push.ensures.fits (omega (arith, one, c.loop-view.invariant.1))) c.push.ensures.ok in (
      turned_on _ _ (views_of c.loop-view.to) _ _ popped put ∙ c.loop-view.invariant.0,
      omega (arith, one, one_fewer _ _ _ put, c.push.ensures.room, c.loop-view.invariant.1),
    )

pub returns : goal.returns
returns c =
    let none = (MatchOption-at_none _ _ c.in_default.is c.pop.ensures.none).0 in
    sym (append-nil (views_of c.loop-view.to)) ∙ ap (λ from. views_of c.loop-view.to ++ reverse from) (sym none) ∙ c.loop-view.invariant.0
