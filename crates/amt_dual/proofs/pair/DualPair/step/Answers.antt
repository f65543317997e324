use Rattle.{std.proofs.{Common.{◌≡◌, List, ℕ, None, sym, ◌∙◌, subst}, lemmas.Result.{IfOk-weaker}}, amt_pair.specs.{Schedule.{with_relay_event}}, amt_dual.specs.{Parts.{dual_parts_of}, Schedule.{with_dual_pair_event}, State.{StandsFor}, declared.{event.DualPairEvent.{DualPairEvent}}}, relay_machine.specs.declared.event.Event.TheVariants.{Packet}}
use Rattle.amt_dual.proofs.pair.DualPair.step.Goals as goal

pub returns-in-Rotate-clause-next : goal.returns-in-Rotate-clause-next
returns-in-Rotate-clause-next c = λ setup course stands.
    IfOk-weaker c.take_owned.result _ _
    (λ step now full. subst (λ (event : DualPairEvent). StandsFor c.take_owned.new.self setup (with_dual_pair_event setup course event)) (sym c.in-Rotate.is) now)
    (c.take_owned.ensures.next setup course stands None)

pub returns-in_ok-bytes-in-Packet-clause-next : goal.returns-in_ok-bytes-in-Packet-clause-next
returns-in_ok-bytes-in-Packet-clause-next c = λ setup course stands.
    IfOk-weaker c.take_owned-in-Packet.result _ _
    (λ step now full. subst (λ (event : DualPairEvent). StandsFor c.take_owned-in-Packet.new.self setup (with_dual_pair_event setup course event)) (sym c.in-Packet.is)
    (subst (λ (octets : List ℕ). StandsFor c.take_owned-in-Packet.new.self setup (with_relay_event setup None (Packet octets) course))
    (c.in_ok-bytes-in-Packet.ensures ∙ c.as_slice.ensures) now))
    (c.take_owned-in-Packet.ensures.next setup course stands None)

pub returns-in-Up-clause-parts : goal.returns-in-Up-clause-parts
returns-in-Up-clause-parts c = λ setup course stands.
    IfOk-weaker c.deliver_up.result _ _
    (λ step are full. subst (λ (event : DualPairEvent). step.parts ≡ dual_parts_of setup course event) (sym c.in-Up.is) are)
    (c.deliver_up.ensures.parts setup course stands)

pub returns-in-Up-clause-next : goal.returns-in-Up-clause-next
returns-in-Up-clause-next c = λ setup course stands.
    IfOk-weaker c.deliver_up.result _ _
    (λ step now full. subst (λ (event : DualPairEvent). StandsFor c.deliver_up.new.self setup (with_dual_pair_event setup course event)) (sym c.in-Up.is) now)
    (c.deliver_up.ensures.next setup course stands)

pub returns-in-Down-clause-parts : goal.returns-in-Down-clause-parts
returns-in-Down-clause-parts c = λ setup course stands.
    IfOk-weaker c.deliver_down.result _ _
    (λ step are full. subst (λ (event : DualPairEvent). step.parts ≡ dual_parts_of setup course event) (sym c.in-Down.is) are)
    (c.deliver_down.ensures.parts setup course stands)

pub returns-in-Down-clause-next : goal.returns-in-Down-clause-next
returns-in-Down-clause-next c = λ setup course stands.
    IfOk-weaker c.deliver_down.result _ _
    (λ step now full. subst (λ (event : DualPairEvent). StandsFor c.deliver_down.new.self setup (with_dual_pair_event setup course event)) (sym c.in-Down.is) now)
    (c.deliver_down.ensures.next setup course stands)
