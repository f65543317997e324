use Rattle.std.proofs.{Common.{◌≡◌, ◌++◌, ◌∷◌, [], ◌∙◌, length, map, reverse, refl, sym, ap, subst, append-nil, arith}, lemmas.{List.Elements.{All-nil, All-push}, Option.{MatchOption-at_none, MatchOption-at_some}}}
use Rattle.relay_machine.specs.declared.number_key.NumberKey.TheVariants.{Endpoints, PacketLimit}
use Rattle.published_table.specs.Views.{terms_of}
use Rattle.replication_workers.{specs.Replicators.{out_of}, proofs.Ready.{none_popped, popped}}
use Rattle.relay_serving.{specs.{GivenOut.{terms_by}, Starting.{AreStarts, IsStart}}, proofs.{Ending.{one_fewer}, Starting.{all_but_last, few_endpoints, is_start, made_from}}}
use Rattle.relay_serving.proofs.server.starting.make_each.Goals as goal

pub loop-out-init : goal.loop-out-init
loop-out-init g c = (
  ap (λ made. c.args.outs.now.items ++ map out_of (reverse made)) c.requires.none ∙ append-nil c.args.outs.now.items,
  omega (arith, c.requires.views, c.args.outs.now.ok.0),
  omega (arith, ap length c.requires.none, c.args.made.now.ok.0),
  refl,
  refl,
  c.requires.terms,
  (λ book new. (new, subst (AreStarts c.args.settings.now book) (sym c.requires.none) (All-nil (IsStart c.args.settings.now book)))),
)

pub unreachable-requires : goal.unreachable-requires
unreachable-requires g c =
    let at = MatchOption-at_some _ _ _ c.in-Some.is c.pop.ensures.cases in
    let none = MatchOption-at_none _ _ c.in_default-pop.is c.pop-in-Some.ensures.none in
    omega (arith, at, ap length none.0, c.loop-out.invariant.1)

pub new-requires-clause-endpoints : goal.new-requires-clause-endpoints
new-requires-clause-endpoints g c =
    let one = MatchOption-at_some _ _ _ c.in-Some-pop.is c.pop-in-Some.ensures.some in
    few_endpoints c.args.settings.now c.in-Some-pop.view (all_but_last (λ view. terms_of view ≡ terms_by c.args.settings.now) _ _ _ one c.loop-out.invariant.5).1

pub new-requires-clause-few : goal.new-requires-clause-few
new-requires-clause-few g c = (c.requires.lawful.numbers Endpoints).most

pub new-requires-clause-limit : goal.new-requires-clause-limit
new-requires-clause-limit g c = (c.requires.lawful.numbers PacketLimit).most

pub push_reserved-requires : goal.push_reserved-requires
push_reserved-requires g c =
    let at = MatchOption-at_some _ _ _ c.in-Some.is c.pop.ensures.cases in
    omega (arith, at, c.loop-out.invariant.2, c.loop-out.invariant.4, c.requires.room, c.args.outs.now.ok.0)

pub loop-out-preserved : goal.loop-out-preserved
loop-out-preserved g c =
    let at = MatchOption-at_some _ _ _ c.in-Some.is c.pop.ensures.cases in
    let one = MatchOption-at_some _ _ _ c.in-Some-pop.is c.pop-in-Some.ensures.some in
    let made = c.in-Ok.ensures.made in
    let put = c.push_reserved.ensures in (
      made_from out_of _ _ _ _ c.in-Some.out c.in-Ok.replicator (popped _ _ _ _ c.pop.ensures.items c.in-Some.is) put.items made.1 ∙ c.loop-out.invariant.0,
      omega (arith, at, one_fewer _ _ _ one, c.loop-out.invariant.1),
      omega (arith, at, put.len, c.loop-out.invariant.2),
      c.pop.ensures.capacity ∙ c.loop-out.invariant.3,
      put.capacity ∙ c.loop-out.invariant.4,
      (all_but_last (λ view. terms_of view ≡ terms_by c.args.settings.now) _ _ _ one c.loop-out.invariant.5).0,
      (λ book new.
          let now = c.loop-out.invariant.6 book new in
          let later = c.pop-in-Some.ensures.each book (terms_by c.args.settings.now) now.0 in (
            later.0,
            subst (AreStarts c.args.settings.now book) (sym put.items)
                (All-push (IsStart c.args.settings.now book) _ c.in-Ok.replicator now.1
                (is_start c.args.settings.now book _ c.in-Ok.replicator made.0 made.2 (MatchOption-at_some _ _ _ c.in-Some-pop.is later.1))),
          )),
    )

pub returns-in-Err-clause-outs : goal.returns-in-Err-clause-outs
returns-in-Err-clause-outs g c =
    let back = c.push_reserved-in-Err.ensures.items ∙ ap (λ out. c.pop.new.self.items ++ out ∷ []) c.in-Err.ensures.back.1 ∙ sym (popped _ _ _ _ c.pop.ensures.items c.in-Some.is) in
    ap (λ outs. outs ++ map out_of (reverse c.loop-out.made.items)) back ∙ c.loop-out.invariant.0

pub returns-in-Err-clause-starts : goal.returns-in-Err-clause-starts
returns-in-Err-clause-starts g c = λ book new. (c.loop-out.invariant.6 book new).1

pub returns-in-Err-clause-room : goal.returns-in-Err-clause-room
returns-in-Err-clause-room g c = (c.push_reserved-in-Err.ensures.capacity ∙ c.pop.ensures.capacity ∙ c.loop-out.invariant.3, c.loop-out.invariant.4)

pub returns-clause-outs : goal.returns-clause-outs
returns-clause-outs g c =
    ap (λ outs. outs ++ map out_of (reverse c.loop-out.made.items)) (sym (none_popped _ _ _ c.pop.ensures.items c.in_default.is)) ∙ c.loop-out.invariant.0

pub returns-clause-starts : goal.returns-clause-starts
returns-clause-starts g c = λ book new. (c.loop-out.invariant.6 book new).1

pub returns-clause-room : goal.returns-clause-room
returns-clause-room g c = (c.pop.ensures.capacity ∙ c.loop-out.invariant.3, c.loop-out.invariant.4)
