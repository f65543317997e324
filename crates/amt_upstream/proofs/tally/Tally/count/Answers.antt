use Rattle.std.proofs.Common.{take}
use Rattle.amt_upstream.proofs.CountedKeys.{AreThere-counted, IsClean-raised, IsCleanBesides-lowered}
use Rattle.amt_upstream.proofs.tally.Tally.count.Goals as goal

pub returns-clause-zeros : goal.returns-clause-zeros
returns-clause-zeros c =
    let done = take c.add_up-done.result c.args.added.now in
    let clean = IsClean-raised done c.args.self.now.numbers c.add_up-done.new.self.numbers c.requires.clean c.add_up-done.ensures.raised in
    IsCleanBesides-lowered c.args.removed.now c.add_up-done.new.self.numbers c.lower.new.self.numbers (λ key none. clean key) c.lower.ensures

pub returns-clause-present : goal.returns-clause-present
returns-clause-present c =
    let done = take c.add_up-done.result c.args.added.now in
    AreThere-counted done c.args.removed.now c.args.self.now.numbers c.add_up-done.new.self.numbers c.lower.new.self.numbers c.requires.enough c.add_up-done.ensures.raised c.lower.ensures
