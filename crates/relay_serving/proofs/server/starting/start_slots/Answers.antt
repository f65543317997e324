use Rattle.std.{proofs.{Common.{◌≡◌, ◌∙◌, ℕ, length, map, sym, ap, subst}, lemmas.List.{length-map}}, specs.Prelude.{OnOk}}
use Rattle.replication_workers.specs.{Dispatchers.{slots_of}, Replicators.{out_of}, SlotStates.{new_slot}, Starting.{HaveStarted}}
use Rattle.relay_serving.{specs.{GivenOut.{starts_in}, Starting.{AreStarts}}, proofs.Starting.{if_ok_then, starts_of_new}}
use Rattle.relay_serving.proofs.server.starting.start_slots.Goals as goal

pub returns-in-Ok-clause-outs : goal.returns-in-Ok-clause-outs
returns-in-Ok-clause-outs g c =
    if_ok_then c.dispatch.result (λ made. slots_of made ≡ map new_slot c.in-Ok.made.slots) (λ made. map out_of (starts_in (slots_of made)) ≡ c.args.outs) c.dispatch.ensures.slots
    (λ made is. ap (λ slots. map out_of (starts_in slots)) is ∙ ap (map out_of) (starts_of_new c.in-Ok.made.slots) ∙ c.in-Ok.ensures.outs)

pub returns-in-Ok-clause-jobs : goal.returns-in-Ok-clause-jobs
returns-in-Ok-clause-jobs g c =
    if_ok_then c.dispatch.result (λ made. slots_of made ≡ map new_slot c.in-Ok.made.slots) (λ made. slots_of made ≡ map new_slot (starts_in (slots_of made))) c.dispatch.ensures.slots
    (λ made is. is ∙ ap (map new_slot) (sym (ap starts_in is ∙ starts_of_new c.in-Ok.made.slots)))

pub returns-in-Ok-clause-starts : goal.returns-in-Ok-clause-starts
returns-in-Ok-clause-starts g c = λ book new.
    if_ok_then c.dispatch.result (λ made. slots_of made ≡ map new_slot c.in-Ok.made.slots) (λ made. AreStarts c.args.settings.now book (starts_in (slots_of made))) c.dispatch.ensures.slots
    (λ made is. subst (AreStarts c.args.settings.now book) (sym (ap starts_in is ∙ starts_of_new c.in-Ok.made.slots)) (c.in-Ok.ensures.starts book new))

pub returns-in-Ok-clause-workers : goal.returns-in-Ok-clause-workers
returns-in-Ok-clause-workers g c = λ threads.
    subst (λ (number : ℕ). OnOk c.dispatch.result (HaveStarted number (g.P.Spawner.starts c.args.spawner.now) (g.P.Spawner.starts c.dispatch.new.spawner)))
    (sym (length-map c.in-Ok.made.slots out_of) ∙ ap length c.in-Ok.ensures.outs) (c.dispatch.ensures.workers threads)
