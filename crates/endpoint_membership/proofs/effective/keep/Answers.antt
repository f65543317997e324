use Rattle.std.{proofs.Common.{List, ◌∷◌, sym, ap, subst, ◌∙◌, Some}, specs.{Borrow.{Bor}, BTreeMap.{get}, declared.cmp.Ordering.{Ordering}}}
use Rattle.amt_values.specs.declared.address.Ip.{Ip}
use Rattle.source_filter.{proofs.Compared.{compared}, specs.declared.record.Record.{Record}}
use Rattle.endpoint_membership.{specs.Effective.{AreEnough, AreKnown, lent}, proofs.{EnoughRecords.{enough_with, enough_without, known_more, known_still}, FilterMap.{updated}}}
use Rattle.endpoint_membership.proofs.effective.keep.Goals as goal

pub returns-then-is_idle-clause-enough : goal.returns-then-is_idle-clause-enough
returns-then-is_idle-clause-enough c all are enough =
    let group_record = c.args.group_record.now in
    let known = c.args.known.now in
    enough_without known (lent c.args.kept.now.items) all group_record c.copied-found.result
    (c.copied-found.ensures ∙ c.get.ensures.value ∙ ap (λ (order : Ip → Ip → Ordering). get order known group_record.group) compared) (sym c.is_idle.ensures ∙ c.if-is_idle.true) are enough

pub returns-in_ok-insert-clause-enough : goal.returns-in_ok-insert-clause-enough
returns-in_ok-insert-clause-enough c all are enough =
    subst (λ (list : List (Bor Record)). AreEnough (lent list) (c.args.group_record.now ∷ all)) (sym c.in_ok-push_front.ensures.items) (enough_with (lent c.args.kept.now.items) all c.args.group_record.now enough)

pub returns-in_ok-insert-clause-known : goal.returns-in_ok-insert-clause-known
returns-in_ok-insert-clause-known c are =
    let group_record = c.args.group_record.now in
    let whole = c.is_full-whole.result in
    let set = updated _ c.args.known.now c.insert.new.self group_record.group (Some whole) compared c.in_ok-insert.ensures.updates in
    subst (λ (list : List (Bor Record)). AreKnown c.insert.new.self (lent list)) (sym c.in_ok-push_front.ensures.items)
    (known_more c.args.known.now c.insert.new.self (lent c.args.kept.now.items) group_record whole c.is_full-whole.ensures set are)

pub returns-else-is_none-clause-enough : goal.returns-else-is_none-clause-enough
returns-else-is_none-clause-enough c all are enough =
    subst (λ (list : List (Bor Record)). AreEnough (lent list) (c.args.group_record.now ∷ all)) (sym c.in_ok-push_front.ensures.items) (enough_with (lent c.args.kept.now.items) all c.args.group_record.now enough)

pub returns-else-is_none-clause-known : goal.returns-else-is_none-clause-known
returns-else-is_none-clause-known c are =
    subst (λ (list : List (Bor Record)). AreKnown c.args.known.now (lent list)) (sym c.in_ok-push_front.ensures.items) (known_still c.args.known.now (lent c.args.kept.now.items) c.args.group_record.now are)
