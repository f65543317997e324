use Rattle.std.proofs.{Common.{◌≡◌, ◌<◌, ◌++◌, map, length, get_or, ap, sym, ◌∙◌, refl, subst, arith, length-set}, Math.Seq.{map-set_same}}
use Rattle.gateway_machine.specs.{Events.{IsEventOf}, Runs.{settings_of}, declared.event.GatewayEvent.{GatewayEvent}}
use Rattle.amt_pair.{specs.{Members.{IsMemberAt, host_of, kept_upward}, Parts.{gateway_part}, Schedule.{upwards_on, with_gateway_event}, declared.gateways.NamedGateway.{NamedGateway}}, proofs.{MembersAt.{lengths_are}, Moments.{come_to_all, come_to_next, come_to_none, come_to_some}}}
use Rattle.amt_pair.proofs.gateways.take_each.Goals as goal

pub loop-gateway-init : goal.loop-gateway-init
loop-gateway-init c = record {
  event = refl;
  come = λ members at. come_to_none c.args.at.now members c.args.gateways.now c.args.up.now c.args.parts.now.items at;
  hosts = refl;
  short = c.requires.short;
  room = omega (arith, c.requires.room);
  few = omega arith;
}

pub take-requires-clause-event : goal.take-requires-clause-event
take-requires-clause-event c =
    subst (λ (event : GatewayEvent). IsEventOf (settings_of (get_or c.loop-gateway.gateways c.loop-gateway.gateway-index c.gateway-item.result).gateway) event)
    (sym c.loop-gateway.invariant.event) tt

pub take-requires-clause-short : goal.take-requires-clause-short
take-requires-clause-short c = c.loop-gateway.invariant.short

pub push_reserved-requires : goal.push_reserved-requires
push_reserved-requires c = omega (arith, c.loop-gateway.invariant.room)

pub loop-gateway-preserved : goal.loop-gateway-preserved
loop-gateway-preserved c =
    let place = c.loop-gateway.gateway-index in
    let gateways = c.loop-gateway.gateways in
    let named = get_or gateways place c.gateway-item.result in
    let next = c.take.new.self in
    let here : named ≡ get_or gateways place named = ap (λ (one : NamedGateway). get_or gateways place one) c.gateway-item.is in
    let event = c.loop-gateway.invariant.event in
    record {
      event = event;
      come = λ members at.
          let within : place < length members = omega (arith, lengths_are c.args.gateways.now members at) in
          come_to_next c.args.at.now members gateways c.args.up.now c.loop-gateway.up c.args.parts.now.items c.loop-gateway.parts.items place
          (c.loop-gateway.invariant.come members at) named next c.take.new.up c.push_reserved.new.self.items c.in-Ok.part within here
          (λ member is. subst (λ (taken : GatewayEvent). IsMemberAt next (with_gateway_event taken member)) event (c.in-Ok.ensures.next member is))
          (λ member is. subst (λ (taken : GatewayEvent). c.take.new.up ≡ c.loop-gateway.up ++ map kept_upward (upwards_on taken member)) event (c.in-Ok.ensures.sent member is))
          (λ member is. subst (λ (taken : GatewayEvent). c.in-Ok.part ≡ gateway_part taken member) event (c.in-Ok.ensures.part member is))
          c.push_reserved.ensures.items;
      hosts = map-set_same host_of gateways place next named (c.take.ensures.host ∙ ap host_of here) ∙ c.loop-gateway.invariant.hosts;
      short = c.take.ensures.short;
      room = omega (arith, c.loop-gateway.invariant.room, c.push_reserved.ensures.len, c.push_reserved.ensures.capacity, length-set gateways place next);
      few = omega (arith, c.loop-gateway.invariant.few, c.push_reserved.ensures.len);
    }

pub returns-in_default-clause-some : goal.returns-in_default-clause-some
returns-in_default-clause-some c = λ members at starved.
    let place = c.loop-gateway.gateway-index in
    let gateways = c.loop-gateway.gateways in
    let named = get_or gateways place c.gateway-item.result in (
      place,
      omega (arith, lengths_are c.args.gateways.now members at),
      come_to_some c.args.at.now members gateways c.args.up.now c.loop-gateway.up c.args.parts.now.items c.loop-gateway.parts.items place
          (c.loop-gateway.invariant.come members at) named c.take.new.self c.take.new.up
          (ap (λ (one : NamedGateway). get_or gateways place one) c.gateway-item.is) c.in_default.ensures.same c.in_default.ensures.same_up,
    )

pub returns-in_default-clause-hosts : goal.returns-in_default-clause-hosts
returns-in_default-clause-hosts c =
    let place = c.loop-gateway.gateway-index in
    let gateways = c.loop-gateway.gateways in
    let named = get_or gateways place c.gateway-item.result in
    map-set_same host_of gateways place c.take.new.self named
    (c.take.ensures.host ∙ ap (λ (one : NamedGateway). host_of (get_or gateways place one)) c.gateway-item.is)
    ∙ c.loop-gateway.invariant.hosts

pub returns-clause-all : goal.returns-clause-all
returns-clause-all c = λ members at yes.
    come_to_all c.args.at.now members c.loop-gateway.gateways c.args.up.now c.loop-gateway.up c.args.parts.now.items c.loop-gateway.parts.items
    c.loop-gateway.gateway-index (c.loop-gateway.invariant.come members at) (omega (arith, lengths_are c.args.gateways.now members at))

pub returns-clause-hosts : goal.returns-clause-hosts
returns-clause-hosts c = c.loop-gateway.invariant.hosts

pub returns-clause-short : goal.returns-clause-short
returns-clause-short c = c.loop-gateway.invariant.short
