use Rattle.{std.proofs.{Common.{Some, refl, subst, ◌∙◌}, lemmas.Result.{IfOk-weaker}}, amt_pair.{specs.Schedule.{Course}, proofs.PairStates.{if_ok_by, on_err_by}}, amt_dual.{specs.{State.{StandsFor}, Schedule.{with_dual_pair_event}, declared.event.DualPairEvent.TheVariants.{Up}}, proofs.{DualStates.{on_err_also, same_pair}, UpDeliveries.{absent_up, delivered_up, not_sent, reached_up, stays_up, was_sent}}}}
use Rattle.amt_dual.proofs.pair.DualPair.deliver_up.Goals as goal

pub returns-in_default-clause-parts : goal.returns-in_default-clause-parts
returns-in_default-clause-parts c = λ setup course stands.
    let none = not_sent setup course c.args.number c.args.self.now.up stands.up c.in_default.ensures in
    IfOk-weaker c.absent.result _ _ (λ step is. is ∙ absent_up setup course c.args.number none) c.absent.ensures.parts

pub returns-in_default-clause-next : goal.returns-in_default-clause-next
returns-in_default-clause-next c = λ setup course stands.
    let none = not_sent setup course c.args.number c.args.self.now.up stands.up c.in_default.ensures in
    let there : StandsFor c.args.self.now setup (with_dual_pair_event setup course (Up c.args.number)) =
    subst (λ (after : Course). StandsFor c.args.self.now setup after) (stays_up setup course c.args.number none) stands in
    if_ok_by c.absent.result (record { relay = there.relay; gateways = there.gateways; up = there.up; down = there.down })

pub returns-clause-parts : goal.returns-clause-parts
returns-clause-parts c = λ setup course stands.
    let sent = was_sent setup course c.args.number c.args.self.now.up stands.up c.in-Some.datagram.now c.in-Some.ensures in
    IfOk-weaker c.take_owned.result _ _
    (λ step is. is ∙ delivered_up setup course c.args.number c.in-Some.datagram.now c.in_ok-bytes.bytes (c.in_ok-bytes.ensures ∙ c.as_slice.ensures) sent)
    (c.take_owned.ensures.parts setup course
    (record { relay = stands.relay; gateways = stands.gateways; up = stands.up; down = stands.down }))

pub returns-clause-next : goal.returns-clause-next
returns-clause-next c = λ setup course stands.
    let sent = was_sent setup course c.args.number c.args.self.now.up stands.up c.in-Some.datagram.now c.in-Some.ensures in
    IfOk-weaker c.take_owned.result _ _
    (λ step now.
    subst (λ (after : Course). StandsFor c.take_owned.new.self setup after)
    (reached_up setup course c.args.number c.in-Some.datagram.now c.in_ok-bytes.bytes (c.in_ok-bytes.ensures ∙ c.as_slice.ensures) sent) now)
    (c.take_owned.ensures.next setup course
    (record { relay = stands.relay; gateways = stands.gateways; up = stands.up; down = stands.down }) (Some sent.upward))

pub returns-in_default-clause-err : goal.returns-in_default-clause-err
returns-in_default-clause-err c = λ setup course stands. on_err_by c.absent.result refl

pub returns-in_err-bytes-clause-err : goal.returns-in_err-bytes-clause-err
returns-in_err-bytes-clause-err c = λ setup course stands. on_err_by c.from_residual.result refl

pub returns-clause-err : goal.returns-clause-err
returns-clause-err c = λ setup course stands.
    on_err_also c.take_owned.result c.take_owned.new.self _ c.args.self.now (same_pair c.args.self.now c.args.self.now.relay c.args.self.now.gateways c.args.self.now.up c.args.self.now.down _ _ _ _ _ _ refl refl refl refl)
    (c.take_owned.ensures.err setup course (record { relay = stands.relay; gateways = stands.gateways; up = stands.up; down = stands.down }))
