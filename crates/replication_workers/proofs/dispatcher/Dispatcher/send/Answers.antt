use Rattle.std.proofs.{Common.{◌≡◌, ◌≤◌, ◌∙◌, [], if◌then◌else◌, length, map, refl, subst, sym, arith}, lemmas.List.{length-map}}
use Rattle.replication_workers.specs.{Dispatchers.{slot_for}, Gathering.{HasRoom}, KeptSlots.{AreThreaded, now_of, state_of}, SlotStates.{CopiedAt}}
use Rattle.replication_workers.proofs.dispatcher.Dispatcher.send.Goals as goal

pub overflow_cast-len : goal.overflow_cast-len
overflow_cast-len g c = omega (arith, c.len.ensures, c.args.self.now.slots.ok.0, c.args.self.now.few_slots)

pub choose_slot-slot-requires : goal.choose_slot-slot-requires
choose_slot-slot-requires g c =
    record { some = omega (arith, c.len.ensures, c.args.self.now.slots.ok.0, c.args.self.now.some); short = subst (λ packet. length packet ≤ 65535) (sym c.as_slice.ensures) c.args.job.short }

pub give_at-requires : goal.give_at-requires
give_at-requires g c =
    record { within = omega (arith, c.choose_slot-slot.ensures.within, c.len.ensures, c.args.self.now.slots.ok.0); few = c.requires.few; publisher = c.requires.publisher }

pub invariant_of-self : goal.invariant_of-self
invariant_of-self g c =
    let self = c.args.self.now in
    let given = c.give_at.ensures in record {
      kinds = given.kinds self.threads self.kinds;
      some = omega (arith, given.number, self.some);
      few_slots = omega (arith, given.number, self.few_slots);
      few_jobs = omega (arith, given.jobs, c.requires.few);
      fresh = self.fresh;
      room = subst (λ count. HasRoom count self.gathered) (sym given.number) self.room;
    }

pub returns : goal.returns
returns g c =
    let self = c.args.self.now in
    let slots = self.slots.items in
    let after = c.give_at.new.slots.items in
    let given = c.give_at.ensures in
    let count : c.len.result ≡ length (map state_of slots) = c.len.ensures ∙ self.slots.ok.0 ∙ sym (length-map slots state_of) in record {
      slot = c.choose_slot-slot.ensures.slot ∙ (λ i. slot_for (count i) (c.as_slice.ensures i));
      put = given.states;
      mode = refl;
      run = given.run;
      copied = λ inline. subst (λ threads. CopiedAt c.choose_slot-slot.result c.args.job (if threads then [] else map now_of slots) (if threads then [] else map now_of after)) (sym inline)
          (given.copied (subst (λ threads. AreThreaded threads slots) inline self.kinds));
    }
