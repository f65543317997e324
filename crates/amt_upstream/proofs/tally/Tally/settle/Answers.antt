use Rattle.std.proofs.Common.{List, refl, subst}
use Rattle.std.proofs.lemmas.List.{take_all}
use Rattle.amt_upstream.{specs.{Counting.{HasSwept}, declared.count_key.CountKey.{CountKey}}, proofs.CountedKeys.{HasSwept-more, IsClean-swept, numbers_swept}}
use Rattle.amt_upstream.proofs.tally.Tally.settle.Goals as goal

pub loop-key-init : goal.loop-key-init
loop-key-init c key = refl

pub loop-key-preserved : goal.loop-key-preserved
loop-key-preserved c =
    HasSwept-more c.args.removed.now c.loop-key.key-index c.key-item.result c.loop-key-test.true c.key-item.is
    c.args.self.now.numbers c.loop-key.self.numbers c.sweep.new.self.numbers c.loop-key.invariant c.sweep.ensures

all_swept : (c : goal.After-loop-key) → HasSwept c.args.removed.now c.args.self.now.numbers c.loop-key.self.numbers
all_swept c =
    subst (λ (keys : List CountKey). HasSwept keys c.args.self.now.numbers c.loop-key.self.numbers) (take_all c.loop-key.key-index c.args.removed.now c.loop-key-test.false) c.loop-key.invariant

pub returns-clause-numbers : goal.returns-clause-numbers
returns-clause-numbers c = numbers_swept c.args.removed.now c.args.self.now.numbers c.loop-key.self.numbers (all_swept c)

pub returns-clause-clean : goal.returns-clause-clean
returns-clause-clean c = IsClean-swept c.args.removed.now c.args.self.now.numbers c.loop-key.self.numbers c.requires (all_swept c)
