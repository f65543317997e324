use Rattle.{std.proofs.{Common.{◌≡◌, ◌≤◌, ℕ, List, [], length, Some, refl, sym, ap, ◌∙◌, subst, arith}, lemmas.{List.{length-map}, Result.{IfOk-weaker}}}, amt_values.specs.Endpoint.{endpoint_of}, gateway_machine.specs.declared.event.GatewayEvent.{GatewayEvent}, relay_machine.specs.declared.sends.OneSend.{OneSend}, amt_pair.specs.{Members.{host_of}, Schedule.{Course, delivery_down, is_endpoint, numbered}, Setup.{Host, relay_peer}}, amt_pair.proofs.{Numbers.{all_numbered, is_delivery_down}, MembersAt.{none_at}, PairStates.{if_ok_by}}, amt_dual.{specs.{Schedule.{with_dual_pair_event}, State.{StandsFor, twin_parts, with_twins_at}, declared.event.DualPairEvent.TheVariants.{Down}}, proofs.{DualStates.{on_err_also, same_pair}, MachineDeliveries.{dual_down_parts, dual_down_reaches, none_delivered, reached_at}, TwinPlaces.{endpoints_alike, first_twins}}}}
use Rattle.amt_dual.proofs.pair.DualPair.deliver_down.Goals as goal

pub returns-in_default-place_of_endpoint-clause-parts : goal.returns-in_default-place_of_endpoint-clause-parts
returns-in_default-place_of_endpoint-clause-parts c = λ setup course stands.
    let send : OneSend = c.in-Some.send.now in
    let found : numbered course.down c.args.number ≡ Some send =
    ap (λ (all : List OneSend). numbered all c.args.number) (sym stands.down) ∙ sym c.in-Some.ensures in
    let none = none_at (λ (host : Host). is_endpoint send.to (endpoint_of host.peer)) c.args.self.now.gateways course.members stands.gateways c.in_default-place_of_endpoint.ensures.none in
    IfOk-weaker c.absent-in_default-place_of_endpoint.result _ _
    (λ step is. is ∙ dual_down_parts setup course c.args.number send [] found (none_delivered setup course send none).parts)
    c.absent-in_default-place_of_endpoint.ensures.parts

pub returns-in_default-place_of_endpoint-clause-next : goal.returns-in_default-place_of_endpoint-clause-next
returns-in_default-place_of_endpoint-clause-next c = λ setup course stands.
    let send : OneSend = c.in-Some.send.now in
    let found : numbered course.down c.args.number ≡ Some send =
    ap (λ (all : List OneSend). numbered all c.args.number) (sym stands.down) ∙ sym c.in-Some.ensures in
    let none = none_at (λ (host : Host). is_endpoint send.to (endpoint_of host.peer)) c.args.self.now.gateways course.members stands.gateways c.in_default-place_of_endpoint.ensures.none in
    let there : StandsFor c.args.self.now setup (with_dual_pair_event setup course (Down c.args.number)) =
    subst (λ (after : Course). StandsFor c.args.self.now setup after) (dual_down_reaches setup course c.args.number send course found (none_delivered setup course send none).reached) stands in
    if_ok_by c.absent-in_default-place_of_endpoint.result
    (record { relay = there.relay; gateways = there.gateways; up = there.up; down = there.down })

pub deliver_at-step-requires-clause-place : goal.deliver_at-step-requires-clause-place
deliver_at-step-requires-clause-place c =
    let twins = first_twins (λ host. is_endpoint c.in-Some.send.now.to (endpoint_of host.peer)) (endpoints_alike c.in-Some.send.now.to) c.args.self.now.gateways c.in-Some-place_of_endpoint.place c.args.self.now.twins c.in-Some-place_of_endpoint.ensures.within c.in-Some-place_of_endpoint.ensures.found c.in-Some-place_of_endpoint.ensures.first in
    omega (arith, twins.within, length-map c.args.self.now.gateways host_of)

pub deliver_at-step-requires-clause-event : goal.deliver_at-step-requires-clause-event
deliver_at-step-requires-clause-event c = λ settings.
    subst (λ (octets : List ℕ). length octets ≤ 65535) (sym (c.in_ok-bytes.ensures ∙ c.as_slice.ensures))
    (all_numbered (λ (send : OneSend). length send.bytes ≤ 65535) c.args.self.now.down c.args.number c.in-Some.send.now c.args.self.now.down_short c.in-Some.ensures)

pub returns-clause-parts : goal.returns-clause-parts
returns-clause-parts c = λ setup course stands.
    let send : OneSend = c.in-Some.send.now in
    let found : numbered course.down c.args.number ≡ Some send =
    ap (λ (all : List OneSend). numbered all c.args.number) (sym stands.down) ∙ sym c.in-Some.ensures in
    let delivery = is_delivery_down setup send c.args.self.now.peer c.in_ok-bytes.bytes (c.args.self.now.peer_is ∙ ap relay_peer stands.relay.settings_kept) (c.in_ok-bytes.ensures ∙ c.as_slice.ensures) in
    let are = reached_at setup course send c.args.self.now.gateways c.in-Some-place_of_endpoint.place stands.gateways c.args.self.now.twins c.args.self.now.apart c.args.self.now.own_endpoints c.in-Some-place_of_endpoint.ensures.within c.in-Some-place_of_endpoint.ensures.found c.in-Some-place_of_endpoint.ensures.first in
    IfOk-weaker c.deliver_at-step.result _ _
    (λ step is.
    is ∙ ap (λ (event : GatewayEvent). twin_parts event are.at.v4 are.at.v6) delivery
    ∙ sym (are.some c.args.number)
    ∙ dual_down_parts setup course c.args.number send (twin_parts (delivery_down setup send) are.at.v4 are.at.v6) found are.delivered.parts)
    (c.deliver_at-step.ensures.parts setup course are.at.v4 are.at.v6
    (record { relay = stands.relay; gateways = stands.gateways; up = stands.up; down = stands.down }) are.at.here are.next are.at.twins)

pub returns-clause-next : goal.returns-clause-next
returns-clause-next c = λ setup course stands.
    let send : OneSend = c.in-Some.send.now in
    let found : numbered course.down c.args.number ≡ Some send =
    ap (λ (all : List OneSend). numbered all c.args.number) (sym stands.down) ∙ sym c.in-Some.ensures in
    let delivery = is_delivery_down setup send c.args.self.now.peer c.in_ok-bytes.bytes (c.args.self.now.peer_is ∙ ap relay_peer stands.relay.settings_kept) (c.in_ok-bytes.ensures ∙ c.as_slice.ensures) in
    let are = reached_at setup course send c.args.self.now.gateways c.in-Some-place_of_endpoint.place stands.gateways c.args.self.now.twins c.args.self.now.apart c.args.self.now.own_endpoints c.in-Some-place_of_endpoint.ensures.within c.in-Some-place_of_endpoint.ensures.found c.in-Some-place_of_endpoint.ensures.first in
    IfOk-weaker c.deliver_at-step.result _ _
    (λ step now.
    subst (λ (after : Course). StandsFor c.deliver_at-step.new.self setup after)
    (ap (λ (event : GatewayEvent). with_twins_at course event c.in-Some-place_of_endpoint.place are.at.v4 are.at.v6) delivery
    ∙ dual_down_reaches setup course c.args.number send (with_twins_at course (delivery_down setup send) c.in-Some-place_of_endpoint.place are.at.v4 are.at.v6) found are.delivered.reached) now)
    (c.deliver_at-step.ensures.next setup course are.at.v4 are.at.v6
    (record { relay = stands.relay; gateways = stands.gateways; up = stands.up; down = stands.down }) are.at.here are.next are.at.twins)

pub returns-clause-err : goal.returns-clause-err
returns-clause-err c = λ setup course stands.
    let are = reached_at setup course c.in-Some.send.now c.args.self.now.gateways c.in-Some-place_of_endpoint.place stands.gateways c.args.self.now.twins c.args.self.now.apart c.args.self.now.own_endpoints c.in-Some-place_of_endpoint.ensures.within c.in-Some-place_of_endpoint.ensures.found c.in-Some-place_of_endpoint.ensures.first in
    on_err_also c.deliver_at-step.result c.deliver_at-step.new.self _ c.args.self.now (same_pair c.args.self.now c.args.self.now.relay c.args.self.now.gateways c.args.self.now.up c.args.self.now.down _ _ _ _ _ _ refl refl refl refl)
    (c.deliver_at-step.ensures.err setup course are.at.v4 are.at.v6
    (record { relay = stands.relay; gateways = stands.gateways; up = stands.up; down = stands.down }) are.at.here are.next are.at.twins)
