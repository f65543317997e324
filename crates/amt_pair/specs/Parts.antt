-- What an event comes to: a part for each step of the relay and of a gateway, or that a datagram is absent.
use Rattle.std.specs.{Prelude.{ℕ, List, [], ◌∷◌, map, Option, Some, None}, List.{filter}}
use Rattle.gateway_machine.specs.{Answers.{Answer}, Sends.{datagram_of}, declared.{event.GatewayEvent.{GatewayEvent, TheVariants.{Moment as Passes}}, step.GatewayStep.{GatewayStep}}}
use Rattle.relay_machine.specs.{Accepted.{change_of}, Answers.{outcome_of, sends_of}, declared.{event.Event.{Event, TheVariants.{Moment, Packet, Rotate}}, sends.{OneSend.{OneSend}, Step.{Step}}}}
use Rattle.amt_pair.specs.{Schedule.{Course, Member, Upward, answer_at, delivery_down, delivery_up, has_name, is_at, numbered}, Setup.{PairSetup}, declared.{event.PairEvent.{PairEvent, TheVariants.{Down, Moment as MomentForAll, Packet as PacketComes, Rotate as SecretComes, Socket, Up}}, step.Part.{Part, TheVariants.{Absent, Gateway, Relay}}}}

-- the relay's step on an event after these events
abbrev pub relay_step : PairSetup → Course → Event → Step
relay_step setup course event = record {
  outcome = outcome_of setup.settings setup.secret course.relay event;
  sends = sends_of setup.settings setup.secret course.relay event;
  change = change_of setup.settings setup.secret course.relay event;
}

-- the step of a gateway that gives this answer
abbrev pub gateway_step : Answer → GatewayStep
gateway_step answer = record { outcome = answer.outcome; sends = map datagram_of answer.sends; deliver = answer.deliver }

-- the part of a gateway
abbrev pub gateway_part : GatewayEvent → Member → Part
gateway_part event member = Gateway member.host.name (gateway_step (answer_at member event))

-- the parts of these gateways
abbrev pub gateway_parts : GatewayEvent → List Member → List Part
gateway_parts event members = map (gateway_part event) members

-- or that the datagram of this number is absent, where there is no part
abbrev pub or_absent : ℕ → List Part → List Part
or_absent number [] = Absent number ∷ []
or_absent number (first ∷ more) = first ∷ more

-- the parts of a delivery to the relay
abbrev pub up_parts : PairSetup → Course → Option Upward → List Part
up_parts setup course None = []
up_parts setup course (Some upward) = Relay (relay_step setup course (delivery_up upward)) ∷ []

-- the parts of a delivery to a gateway
abbrev pub down_parts : PairSetup → Course → Option OneSend → List Part
down_parts setup course None = []
down_parts setup course (Some send) = gateway_parts (delivery_down setup send) (filter (is_at send.to) course.members)

-- the parts of an event, in the order of the steps
abbrev pub parts_of : PairSetup → Course → PairEvent → List Part
parts_of setup course (MomentForAll at) =
    Relay (relay_step setup course (Moment at)) ∷ gateway_parts (Passes at) course.members
parts_of setup course (SecretComes secret) = Relay (relay_step setup course (Rotate secret)) ∷ []
parts_of setup course (PacketComes bytes) = Relay (relay_step setup course (Packet bytes)) ∷ []
parts_of setup course (Socket name event) = gateway_parts event (filter (has_name name) course.members)
parts_of setup course (Up number) = or_absent number (up_parts setup course (numbered course.up number))
parts_of setup course (Down number) = or_absent number (down_parts setup course (numbered course.down number))
