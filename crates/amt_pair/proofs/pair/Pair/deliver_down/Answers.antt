use Rattle.std.proofs.{Common.{◌≡◌, ◌≤◌, ℕ, List, [], ◌∷◌, length, Some, refl, sym, ap, ◌∙◌, subst}, lemmas.Result.{IfOk-weaker}}
use Rattle.amt_values.specs.Endpoint.{endpoint_of}
use Rattle.gateway_machine.specs.declared.event.GatewayEvent.{GatewayEvent}
use Rattle.relay_machine.specs.declared.sends.OneSend.{OneSend}
use Rattle.amt_pair.specs.{Parts.{gateway_part}, Schedule.{Course, delivery_down, is_at, is_endpoint, numbered, with_pair_event, with_member_event}, Setup.{Host, relay_peer}, State.{StandsFor, with_member_at}}
use Rattle.amt_pair.{specs.declared.event.PairEvent.TheVariants.{Down}, proofs.{Deliveries.{no_part, none_reached}, Numbers.{all_numbered, down_parts_are, down_reaches, is_delivery_down}, MembersAt.{none_at}, PairStates.{addressed_one, if_ok_by}}}
use Rattle.amt_pair.proofs.pair.Pair.deliver_down.Goals as goal

pub returns-in_default-place_of_endpoint-clause-parts : goal.returns-in_default-place_of_endpoint-clause-parts
returns-in_default-place_of_endpoint-clause-parts c = λ setup course stands.
    let send : OneSend = c.in-Some.send.now in
    let found : numbered course.down c.args.number ≡ Some send =
    ap (λ (all : List OneSend). numbered all c.args.number) (sym stands.down) ∙ sym c.in-Some.ensures in
    let none = none_at (λ (host : Host). is_endpoint send.to (endpoint_of host.peer)) c.args.self.now.gateways course.members stands.gateways c.in_default-place_of_endpoint.ensures.none in
    IfOk-weaker c.absent-in_default-place_of_endpoint.result _ _
    (λ step is. is ∙ down_parts_are setup course c.args.number send [] found (no_part (delivery_down setup send) (is_at send.to) course none))
    c.absent-in_default-place_of_endpoint.ensures.parts

pub returns-in_default-place_of_endpoint-clause-next : goal.returns-in_default-place_of_endpoint-clause-next
returns-in_default-place_of_endpoint-clause-next c = λ setup course stands.
    let send : OneSend = c.in-Some.send.now in
    let found : numbered course.down c.args.number ≡ Some send =
    ap (λ (all : List OneSend). numbered all c.args.number) (sym stands.down) ∙ sym c.in-Some.ensures in
    let none = none_at (λ (host : Host). is_endpoint send.to (endpoint_of host.peer)) c.args.self.now.gateways course.members stands.gateways c.in_default-place_of_endpoint.ensures.none in
    let there : StandsFor c.args.self.now setup (with_pair_event setup course (Down c.args.number)) =
    subst (λ (after : Course). StandsFor c.args.self.now setup after)
    (down_reaches setup course c.args.number send course found (none_reached (delivery_down setup send) (is_at send.to) course none)) stands in
    if_ok_by c.absent-in_default-place_of_endpoint.result
    (record { relay = there.relay; gateways = there.gateways; up = there.up; down = there.down })

pub take_at_gateway-requires-clause-event : goal.take_at_gateway-requires-clause-event
take_at_gateway-requires-clause-event c = λ default.
    subst (λ (octets : List ℕ). length octets ≤ 65535) (sym (c.in_ok-bytes.ensures ∙ c.as_slice.ensures))
    (all_numbered (λ (send : OneSend). length send.bytes ≤ 65535) c.args.self.now.down c.args.number c.in-Some.send.now c.args.self.now.down_short c.in-Some.ensures)

pub returns-clause-parts : goal.returns-clause-parts
returns-clause-parts c = λ setup course stands.
    let send : OneSend = c.in-Some.send.now in
    let found : numbered course.down c.args.number ≡ Some send =
    ap (λ (all : List OneSend). numbered all c.args.number) (sym stands.down) ∙ sym c.in-Some.ensures in
    let from = c.args.self.now.peer_is ∙ ap relay_peer stands.relay.settings_kept in
    let delivery = is_delivery_down setup send c.args.self.now.peer c.in_ok-bytes.bytes from (c.in_ok-bytes.ensures ∙ c.as_slice.ensures) in
    let one = addressed_one c.args.self.now.gateways course c.in-Some-place_of_endpoint.place stands.gateways c.in-Some-place_of_endpoint.ensures.within
    c.args.self.now.apart (delivery_down setup send) send.to c.args.self.now.own_endpoints c.in-Some-place_of_endpoint.ensures.found in
    IfOk-weaker c.take_at_gateway.result _ _
    (λ step is.
    is ∙ ap (λ (event : GatewayEvent). gateway_part event one.member ∷ []) delivery
    ∙ down_parts_are setup course c.args.number send (gateway_part (delivery_down setup send) one.member ∷ []) found one.part)
    (c.take_at_gateway.ensures.parts setup course one.member
    (record { relay = stands.relay; gateways = stands.gateways; up = stands.up; down = stands.down }) one.here)

pub returns-clause-next : goal.returns-clause-next
returns-clause-next c = λ setup course stands.
    let send : OneSend = c.in-Some.send.now in
    let found : numbered course.down c.args.number ≡ Some send =
    ap (λ (all : List OneSend). numbered all c.args.number) (sym stands.down) ∙ sym c.in-Some.ensures in
    let from = c.args.self.now.peer_is ∙ ap relay_peer stands.relay.settings_kept in
    let delivery = is_delivery_down setup send c.args.self.now.peer c.in_ok-bytes.bytes from (c.in_ok-bytes.ensures ∙ c.as_slice.ensures) in
    let one = addressed_one c.args.self.now.gateways course c.in-Some-place_of_endpoint.place stands.gateways c.in-Some-place_of_endpoint.ensures.within
    c.args.self.now.apart (delivery_down setup send) send.to c.args.self.now.own_endpoints c.in-Some-place_of_endpoint.ensures.found in
    IfOk-weaker c.take_at_gateway.result _ _
    (λ step now.
    subst (λ (after : Course). StandsFor c.take_at_gateway.new.self setup after)
    (ap (λ (event : GatewayEvent). with_member_at course event c.in-Some-place_of_endpoint.place one.member) delivery
    ∙ sym one.reached
    ∙ down_reaches setup course c.args.number send (with_member_event (delivery_down setup send) (is_at send.to) course) found refl) now)
    (c.take_at_gateway.ensures.next setup course one.member
    (record { relay = stands.relay; gateways = stands.gateways; up = stands.up; down = stands.down }) one.here)
