use Rattle.std.proofs.{Common.{◌≤◌, List, length, subst, arith}, lemmas.List.{take_all}}
use Rattle.amt_upstream.{specs.{Counting.{HasRaised}, declared.count_key.CountKey.{CountKey}}, proofs.CountedKeys.{IsClean-back}}
use Rattle.amt_upstream.proofs.tally.Tally.restore.Goals as goal

pub take_back-requires : goal.take_back-requires
take_back-requires c key none =
    let removed = c.args.removed.now in
    let long : length removed ≤ c.add_up.result = omega (arith, c.add_up.ensures.all c.requires.present) in
    IsClean-back removed c.args.self.now.numbers c.add_up.new.self.numbers c.requires.zeros c.requires.present
    (subst (λ (keys : List CountKey). HasRaised keys c.args.self.now.numbers c.add_up.new.self.numbers) (take_all c.add_up.result removed long) c.add_up.ensures.raised) key
