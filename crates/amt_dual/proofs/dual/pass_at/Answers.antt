use Rattle.amt_dual.proofs.dual.pass_at.Goals as goal

pub returns : goal.returns
returns c =
    let taken = c.take_at-step.ensures in
    record { step = taken.step; next = taken.next; settings = taken.settings; err = taken.err; same = taken.same }
