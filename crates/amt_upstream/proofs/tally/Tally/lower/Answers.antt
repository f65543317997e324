use Rattle.std.proofs.Common.{List, subst}
use Rattle.std.proofs.lemmas.List.{take_all}
use Rattle.amt_upstream.{specs.Counting.{HasLowered}, specs.declared.count_key.CountKey.{CountKey}, proofs.CountedKeys.{HasLowered-more, HasLowered-nothing}}
use Rattle.amt_upstream.proofs.tally.Tally.lower.Goals as goal

pub loop-key-init : goal.loop-key-init
loop-key-init c = HasLowered-nothing c.args.self.now.numbers

pub loop-key-preserved : goal.loop-key-preserved
loop-key-preserved c =
    HasLowered-more c.args.keys.now c.loop-key.key-index c.key-item.result c.loop-key-test.true c.key-item.is
    c.args.self.now.numbers c.loop-key.self.numbers c.lower_one.new.self.numbers c.loop-key.invariant c.lower_one.ensures

pub returns : goal.returns
returns c =
    subst (λ (keys : List CountKey). HasLowered keys c.args.self.now.numbers c.loop-key.self.numbers) (take_all c.loop-key.key-index c.args.keys.now c.loop-key-test.false) c.loop-key.invariant
