use Rattle.std.proofs.Common.{ℕ, ◌≡◌, length, take, subst, arith, ◌∙◌}
use Rattle.amt_upstream.{specs.Counting.{HasRaised}, proofs.CountedKeys.{HasRaised-more, HasRaised-none, never_refused, room_for_one}}
use Rattle.amt_upstream.proofs.tally.Tally.add_up.Goals as goal

pub loop-index-init : goal.loop-index-init
loop-index-init c = HasRaised-none c.args.self.now.numbers

pub add-requires : goal.add-requires
add-requires c =
    let key = c.index-keys-index.result in
    room_for_one c.args.keys.now c.loop-index.index 18446744073709551616 c.args.self.now.numbers c.loop-index.self.numbers key c.loop-index-test.true (c.requires key) c.loop-index.invariant

pub returns-in-Err-clause-raised : goal.returns-in-Err-clause-raised
returns-in-Err-clause-raised c key = c.in-Err.ensures.err key ∙ c.loop-index.invariant key

pub returns-in-Err-clause-all : goal.returns-in-Err-clause-all
returns-in-Err-clause-all c there =
    absurd (never_refused c.args.keys.now c.loop-index.index c.index-keys-index.result c.args.self.now.numbers c.loop-index.self.numbers
    c.loop-index-test.true c.index-keys-index.is there c.loop-index.invariant c.in-Err.ensures.absent)

pub loop-index-preserved : goal.loop-index-preserved
loop-index-preserved c =
    HasRaised-more c.args.keys.now c.loop-index.index c.index-keys-index.result c.loop-index-test.true c.index-keys-index.is
    c.args.self.now.numbers c.loop-index.self.numbers c.add.new.self.numbers c.loop-index.invariant c.in-Ok.ensures.ok

pub returns-clause-raised : goal.returns-clause-raised
returns-clause-raised c =
    let all : c.loop-index.index ≡ length c.args.keys.now = omega arith in
    subst (λ (n : ℕ). HasRaised (take n c.args.keys.now) c.args.self.now.numbers c.loop-index.self.numbers) all c.loop-index.invariant
