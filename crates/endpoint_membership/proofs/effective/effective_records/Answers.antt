use Rattle.std.proofs.{Common.{◌≡◌, ◌+◌, ◌-◌, ◌<◌, ◌∷◌, drop, length, sym, ap, subst, ◌∙◌, ℕ, arith}, lemmas.List.{drop_more}}
use Rattle.source_filter.specs.declared.record.Record.{Record}
use Rattle.endpoint_membership.specs.Effective.{AreEnough, lent}
use Rattle.endpoint_membership.proofs.effective.effective_records.Goals as goal

pub loop-place-preserved : goal.loop-place-preserved
loop-place-preserved c =
    let records = c.args.records.now in
    let place = c.loop-place.place in
    let before = place - 1 in
    let item = c.index-records-place.result in
    let some = c.loop-place-test.true in
    let most = c.loop-place.auto.place in
    let within : before < length records = omega (arith, some, most) in
    let next : before + 1 ≡ place = omega (arith, some) in
    let split : drop before records ≡ item ∷ drop place records =
    drop_more records before item within ∙ ap (λ (one : Record). one ∷ drop (before + 1) records) (sym c.index-records-place.is)
    ∙ ap (λ (from : ℕ). item ∷ drop from records) next in
    let kept = c.loop-place.invariant in
    (subst (AreEnough (lent c.keep.new.kept.items)) (sym split) (c.in_ok-keep.ensures.enough (drop place records) kept.1 kept.0), c.in_ok-keep.ensures.known kept.1)
