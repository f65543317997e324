use Rattle.std.proofs.{Common.{◌≡◌, ◌∙◌, ◌+◌, count_by, length, refl, sym, ap, arith}, lemmas.{List.Sums.{count_by-le-length}, Option.{MatchOption-at_none, MatchOption-at_some}}}
use Rattle.published_table.specs.{Publishers.{book_of, published}, Views.{publisher_of, views_of}}
use Rattle.relay_serving.{specs.Views.{is_apart}, proofs.{Ending.{asked_all, asked_first, asked_more, at_most_one, counted_more, one_fewer}, Starting.{all_but_last}}}
use Rattle.relay_serving.proofs.server.ending.ask_each.Goals as goal

pub loop-view-init : goal.loop-view-init
loop-view-init g c = (
  asked_first (published c.args.publisher.now) (views_of c.args.from.now) (views_of c.args.to.now) c.requires.none,
  omega (arith, ap length c.requires.none, c.requires.room),
  c.requires.publisher,
  sym (ap (count_by (is_apart (length (published c.args.publisher.now)))) c.requires.none),
)

pub ask-apart-requires : goal.ask-apart-requires
ask-apart-requires g c =
    let one = MatchOption-at_some _ _ _ c.in-Some.is c.pop.ensures.some in
    (all_but_last (λ view. publisher_of view ≡ book_of c.args.publisher.now) _ _ _ one c.loop-view.invariant.2).1

pub put-requires : goal.put-requires
put-requires g c =
    let one = one_fewer _ _ _ (MatchOption-at_some _ _ _ c.in-Some.is c.pop.ensures.some) in
    omega (arith, one, c.loop-view.invariant.1)

pub overflow_add-apart : goal.overflow_add-apart
overflow_add-apart g c =
    let test = is_apart (length (published c.args.publisher.now)) in
    let few = count_by-le-length test (views_of c.loop-view.to) in
    let one = at_most_one (test c.ask-apart.new.view) in
    omega (arith, few, one, c.ask-apart.ensures.apart, c.loop-view.invariant.1, c.loop-view.invariant.3, c.loop-view.to.views.small)

pub loop-view-smaller : goal.loop-view-smaller
loop-view-smaller g c =
    let one = one_fewer _ _ _ (MatchOption-at_some _ _ _ c.in-Some.is c.pop.ensures.some) in
    omega (arith, one)

pub loop-view-preserved : goal.loop-view-preserved
loop-view-preserved g c =
    let is = MatchOption-at_some _ _ _ c.in-Some.is c.pop.ensures.some in
    let one = one_fewer _ _ _ is in
    let more = one_fewer _ _ _ c.put.ensures.put in
    let rest = all_but_last (λ view. publisher_of view ≡ book_of c.args.publisher.now) _ _ _ is c.loop-view.invariant.2 in (
      asked_more (published c.args.publisher.now) _ _ _ _ _ _ _ c.loop-view.invariant.0 is c.put.ensures.put c.ask-apart.ensures.further c.ask-apart.ensures.reached,
      omega (arith, one, more, c.put.ensures.room, c.loop-view.invariant.1),
      rest.0,
      (λ i. c.loop-view.invariant.3 i + c.ask-apart.ensures.apart i)
          ∙ sym (counted_more (is_apart (length (published c.args.publisher.now))) _ _ _ _ c.put.ensures.put refl),
    )

pub returns-clause-asked : goal.returns-clause-asked
returns-clause-asked g c = asked_all _ _ _ _ c.loop-view.invariant.0 (MatchOption-at_none _ _ c.in_default.is c.pop.ensures.none).0

pub returns-clause-apart : goal.returns-clause-apart
returns-clause-apart g c = c.loop-view.invariant.3
