use Rattle.std.proofs.Common.{◌≡◌, ◌+◌, ◌≤◌, ℕ, List, map, length, vec_len, vec_capacity}
use Rattle.gateway_machine.specs.declared.event.GatewayEvent.{GatewayEvent, TheVariants.{Moment as Passes}}
use Rattle.amt_pair.specs.{Members.{AreMembersAt, AreShort, HasComeTo, host_of}, Schedule.{Member}, declared.{datagrams.UpDatagram.{UpDatagram}, gateways.NamedGateway.{NamedGateway}, step.Part.{Part}}}
use Rattle.amt_pair.proofs.gateways.take_each.Given as goal

-- the moment has come to the gateways before the place, and there is room for the parts of the others
pub record IsOnItsWay (at place : ℕ) (before gateways : List NamedGateway) (up_before up : List UpDatagram) (parts_before parts : List Part) (taken : GatewayEvent) (len_before len capacity : ℕ) : Type 0 where
  pub event : taken ≡ Passes at
  pub come : (members : List Member) → AreMembersAt before members → HasComeTo at place members gateways up_before up parts_before parts
  pub hosts : map host_of gateways ≡ map host_of before
  pub short : AreShort up
  pub room : len + length gateways ≤ capacity + place
  pub few : len ≤ len_before + place

abbrev pub invariant-loop-gateway : goal.invariant-loop-gateway
invariant-loop-gateway l =
    IsOnItsWay l.at l.gateway-index l.initial.gateways l.gateways l.initial.up l.up l.initial.parts.items l.parts.items l.event (vec_len l.initial.parts) (vec_len l.parts) (vec_capacity l.parts)
