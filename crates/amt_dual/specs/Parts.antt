-- What an event comes to: a part for each step of the relay and of a machine, or that a datagram is absent.
use Rattle.std.specs.{Prelude.{ℕ, List, [], ◌∷◌, map, Option, Some, None}, List.{filter}}
use Rattle.gateway_machine.specs.declared.event.GatewayEvent.{GatewayEvent, TheVariants.{Moment as Passes}}
use Rattle.relay_machine.specs.declared.{event.Event.{TheVariants.{Moment, Packet, Rotate}}, sends.OneSend.{OneSend}}
use Rattle.amt_pair.specs.{Parts.{gateway_step, relay_step}, Schedule.{Course, Member, Upward, answer_at, delivery_down, delivery_up, numbered}, Setup.{PairSetup}}
use Rattle.amt_dual.specs.{Schedule.{is_called, takes_delivery}, declared.{event.DualPairEvent.{DualPairEvent}, step.DualPart.{DualPart, TheVariants.{Absent, Gateway, Relay}}}}
use Rattle.amt_dual.specs.declared.event.DualPairEvent.TheVariants as events

-- the part of a machine
abbrev pub machine_part : GatewayEvent → Member → DualPart
machine_part event member = Gateway member.host.name member.host.settings.v6 (gateway_step (answer_at member event))

-- the parts of these machines
abbrev pub machine_parts : GatewayEvent → List Member → List DualPart
machine_parts event members = map (machine_part event) members

-- or that the datagram of this number is absent, where there is no part
abbrev pub or_absent : ℕ → List DualPart → List DualPart
or_absent number [] = Absent number ∷ []
or_absent number (first ∷ more) = first ∷ more

-- the parts of a delivery to the relay
abbrev pub up_parts : PairSetup → Course → Option Upward → List DualPart
up_parts setup course None = []
up_parts setup course (Some upward) = Relay (relay_step setup course (delivery_up upward)) ∷ []

-- the parts of a delivery to a gateway
abbrev pub down_parts : PairSetup → Course → Option OneSend → List DualPart
down_parts setup course None = []
down_parts setup course (Some send) =
    machine_parts (delivery_down setup send) (filter (takes_delivery setup course.members send) course.members)

-- the parts of an event, in the order of the steps
abbrev pub dual_parts_of : PairSetup → Course → DualPairEvent → List DualPart
dual_parts_of setup course (events.Moment at) = Relay (relay_step setup course (Moment at)) ∷ machine_parts (Passes at) course.members
dual_parts_of setup course (events.Rotate secret) = Relay (relay_step setup course (Rotate secret)) ∷ []
dual_parts_of setup course (events.Packet bytes) = Relay (relay_step setup course (Packet bytes)) ∷ []
dual_parts_of setup course (events.Socket name v6 event) = machine_parts event (filter (is_called name v6) course.members)
dual_parts_of setup course (events.Up number) = or_absent number (up_parts setup course (numbered course.up number))
dual_parts_of setup course (events.Down number) = or_absent number (down_parts setup course (numbered course.down number))
