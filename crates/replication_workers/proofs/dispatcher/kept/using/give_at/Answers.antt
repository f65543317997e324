use Rattle.std.proofs.Common.{lt_of_le_of_lt, arith}
use Rattle.replication_workers.{specs.Dispatchers.{IsForSlot}, proofs.Giving.{are_given, few_at, said_at}}
use Rattle.replication_workers.proofs.dispatcher.kept.using.give_at.Goals as goal

pub index_mut-requires : goal.index_mut-requires
index_mut-requires g c = omega (arith, c.requires.within, c.args.slots.now.ok.0)

pub give-requires : goal.give-requires
give-requires g c =
    let slots = c.args.slots.now.items in
    let value = c.index_mut.ensures.value in
    record { few = lt_of_le_of_lt (few_at slots c.args.place _ c.requires.within value) c.requires.few; publisher = said_at slots c.args.place _ c.requires.within value (IsForSlot c.args.job) c.requires.publisher }

pub returns : goal.returns
returns g c = are_given c.args.slots.now.items c.args.place _ c.requires.within c.index_mut.ensures.value c.args.job _ c.give.ensures
