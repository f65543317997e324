use Rattle.amt_dual.proofs.pair.DualPair.take_owned.Goals as goal

pub returns : goal.returns
returns c =
    let taken = c.take_at_relay-step.ensures in
    record { parts = taken.parts; next = taken.next; all = taken.all; up = taken.up; down = taken.down; hosts = taken.hosts; err = taken.err }
