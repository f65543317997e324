use Rattle.std.proofs.Common.{◌++◌, ◌∙◌, sym, ap, arith}
use Rattle.replication_workers.specs.Slots.{from_the_end}
use Rattle.replication_workers.proofs.dispatcher.readying.ready_all.Goals as goal

pub ready_each-requires : goal.ready_each-requires
ready_each-requires g c =
    let made = c.in_ok-ready.ensures in
    record { none = made.items; room = omega (arith, made.exact, c.len.ensures, c.args.slots.now.ok.0) }

pub unready-requires : goal.unready-requires
unready-requires g c = record { room = omega (arith, c.ready_each.ensures.number, c.ready_each.ensures.room, c.args.slots.now.ok.0, c.args.slots.now.ok.1) }

pub returns-in-Ok-clause-ready : goal.returns-in-Ok-clause-ready
returns-in-Ok-clause-ready g c =
    ap (λ slots. slots ++ from_the_end c.ready_each.new.ready.items) (sym c.in-Ok.ensures.ok) ∙ c.ready_each.ensures.all

pub returns-in-Err-clause-back : goal.returns-in-Err-clause-back
returns-in-Err-clause-back g c = c.unready.ensures.slots ∙ c.ready_each.ensures.all

pub returns-in-Err-clause-room : goal.returns-in-Err-clause-room
returns-in-Err-clause-room g c = c.unready.ensures.room ∙ c.ready_each.ensures.room
