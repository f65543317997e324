use Rattle.std.proofs.Common.{List, length, sym, ap, subst, ◌∙◌, arith}
use Rattle.endpoint_membership.specs.Table.{TableValue}
use Rattle.amt_upstream.specs.{Counting.{HasMoved, IsCounted, keys_after, times}, Taking.{AreNumbersAfter}}
use Rattle.amt_upstream.specs.declared.count_key.CountKey.{CountKey}
use Rattle.amt_upstream.proofs.NumbersAfter.{AreNumbersAfter-moved, IsCounted-next, IsCounted-same, enough_before, number-few, number-few_after}
use Rattle.amt_upstream.proofs.upstream.take_changes.Goals as goal
use Rattle.amt_upstream.proofs.upstream.take_changes.Goals.{After-deref-3}

pub sides_of-requires-clause-ascend : goal.sides_of-requires-clause-ascend
sides_of-requires-clause-ascend c = let are = c.requires.changes c.requires.within.settings c.requires.within.log c.requires.within.holds in are.ascend

pub count-requires-clause-room : goal.count-requires-clause-room
count-requires-clause-room c key = omega (arith, number-few c.args.table.now c.args.tally.now.numbers c.args.change.now c.requires.counted c.requires.within key, c.deref.type_inv)

pub count-requires-clause-enough : goal.count-requires-clause-enough
count-requires-clause-enough c key =
    omega (
      arith,
      ap (times key) (c.deref-2.ensures.value ∙ c.in_ok-removed.ensures),
      enough_before c.args.table.now c.args.tally.now.numbers c.args.change.now c.args.changes.now c.requires.counted c.requires.changes c.requires.within key,
    )

-- what is counted
has_moved : (c : After-deref-3) → AreNumbersAfter c.args.table.now c.args.change.now c.count.new.self.numbers
has_moved c =
    AreNumbersAfter-moved c.args.table.now c.args.tally.now.numbers c.args.change.now c.args.changes.now c.requires.counted c.requires.changes c.count.new.self.numbers
    (subst (λ (removed : List CountKey). HasMoved (keys_after c.args.changes.now) removed c.args.tally.now.numbers c.count.new.self.numbers) (c.deref-2.ensures.value ∙ c.in_ok-removed.ensures)
    (subst (λ (added : List CountKey). HasMoved added c.deref-2.result.now c.args.tally.now.numbers c.count.new.self.numbers) (c.deref.ensures.value ∙ c.in_ok-added.ensures) c.in_ok-count.ensures.moved))

pub take_counted-requires-clause-numbers : goal.take_counted-requires-clause-numbers
take_counted-requires-clause-numbers c = has_moved c

pub returns-in-Ok-clause-counted : goal.returns-in-Ok-clause-counted
returns-in-Ok-clause-counted c =
    IsCounted-next c.args.table.now c.args.tally.now.numbers c.args.change.now c.requires.counted c.requires.within c.take_counted.new.table c.count.new.self.numbers c.settle.new.self.numbers
    (has_moved (goal.at.returns-in-Ok-clause-counted c).After-deref-3) c.in-Ok.ensures.stands c.settle.ensures.numbers c.settle.ensures.clean

pub restore-requires-clause-room : goal.restore-requires-clause-room
restore-requires-clause-room c key =
    omega (
      arith,
      number-few_after c.args.table.now c.args.tally.now.numbers c.args.change.now c.requires.counted c.requires.within c.count.new.self.numbers
          (has_moved (goal.at.restore-requires-clause-room c).After-deref-3) key,
      c.deref-2.type_inv,
      ap length (c.deref-in-Err-2.ensures.value ∙ sym c.deref-2.ensures.value),
    )

pub returns-clause-counted : goal.returns-clause-counted
returns-clause-counted c =
    let moved = subst (λ (removed : List CountKey). HasMoved c.deref-in-Err.result.now removed c.args.tally.now.numbers c.count.new.self.numbers) (c.deref-2.ensures.value ∙ sym c.deref-in-Err-2.ensures.value)
    (subst (λ (added : List CountKey). HasMoved added c.deref-2.result.now c.args.tally.now.numbers c.count.new.self.numbers) (c.deref.ensures.value ∙ sym c.deref-in-Err.ensures.value) c.in_ok-count.ensures.moved) in
    subst (λ (table : TableValue). IsCounted table c.restore.new.self.numbers) (sym c.in-Err.ensures.same)
    (IsCounted-same c.args.table.now c.args.tally.now.numbers c.restore.new.self.numbers c.requires.counted (c.restore.ensures c.args.tally.now.numbers c.requires.counted.clean moved))
