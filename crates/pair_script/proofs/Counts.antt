-- How many datagrams are sent in the parts of an event.
use Rattle.std.{proofs.{Common.{◌≡◌, ℕ, ◌+◌, Bool, true, List, [], ◌∷◌, ◌++◌, length, Option, Some, None, refl, sym, ap, ◌∙◌, arith}, lemmas.List.{length-append, length-map, Sums.{sum_by-cons}}}, specs.List.{filter, flat_map, sum_by}}
use Rattle.gateway_machine.specs.{Sends.{datagram_of}, declared.event.GatewayEvent.{GatewayEvent, TheVariants.{Moment as Passes}}}
use Rattle.relay_machine.specs.{Answers.{sends_of}, declared.sends.OneSend.{OneSend}}
use Rattle.relay_machine.specs.declared.event.Event.TheVariants as events
use Rattle.amt_pair.specs.Parts.{down_parts, gateway_part, gateway_parts, or_absent, parts_of, up_parts}
use Rattle.amt_pair.specs.{Schedule.{Course, Member, Upward, answer_at, delivery_down, delivery_up, down_delivered, has_name, is_at, numbered, run_of_member, up_delivered, upwards_on, with_pair_event}, Sent.{sent_on}, Setup.{PairSetup}, declared.{event.PairEvent.{PairEvent, TheVariants.{Down, Moment as MomentForAll, Packet as PacketComes, Rotate as SecretComes, Socket, Up}}, step.Part.{Part}}}
use Rattle.pair_script.specs.Texts.{downs_in, ups_in}

-- as many as a gateway's part says
part_counted : (event : GatewayEvent) (member : Member) → length (upwards_on event member) ≡ ups_in (gateway_part event member)
part_counted event member =
    length-map (sent_on member.host.settings (run_of_member member) event) _
    ∙ (length-map (answer_at member event).sends _ ∙ sym (length-map (answer_at member event).sends datagram_of))

pub gateways_counted : (event : GatewayEvent) (members : List Member) → length (flat_map (upwards_on event) members) ≡ sum_by ups_in (gateway_parts event members)
gateways_counted event [] = refl
gateways_counted event (member ∷ members) =
    omega (
      arith,
      length-append (upwards_on event member) (flat_map (upwards_on event) members),
      part_counted event member,
      gateways_counted event members,
      sum_by-cons ups_in (gateway_part event member) (gateway_parts event members),
    )

-- the relay sends nothing in them
pub no_downs : (event : GatewayEvent) (members : List Member) → sum_by downs_in (gateway_parts event members) ≡ 0
no_downs event [] = refl
no_downs event (member ∷ members) = omega (arith, sum_by-cons downs_in (gateway_part event member) (gateway_parts event members), no_downs event members)

all_pass : (members : List Member) → filter (λ member. true) members ≡ members
all_pass [] = refl
all_pass (member ∷ members) = ap (λ (more : List Member). member ∷ more) (all_pass members)

-- an absent datagram counts as nothing
pub absent_ups : (number : ℕ) (parts : List Part) → sum_by ups_in (or_absent number parts) ≡ sum_by ups_in parts
absent_ups number [] = refl
absent_ups number (first ∷ more) = refl

pub absent_downs : (number : ℕ) (parts : List Part) → sum_by downs_in (or_absent number parts) ≡ sum_by downs_in parts
absent_downs number [] = refl
absent_downs number (first ∷ more) = refl

pub reached_counted : (event : GatewayEvent) (reaches : Member → Bool) (course : Course)
    → length (course.up ++ flat_map (upwards_on event) (filter reaches course.members)) ≡ length course.up + sum_by ups_in (gateway_parts event (filter reaches course.members))
reached_counted event reaches course =
    omega (arith, length-append course.up (flat_map (upwards_on event) (filter reaches course.members)), gateways_counted event (filter reaches course.members))

up_by : (setup : PairSetup) (course : Course) (number : ℕ) (found : Option Upward)
    → length (up_delivered setup found course).up ≡ length course.up + sum_by ups_in (or_absent number (up_parts setup course found))
up_by setup course number None = omega arith
up_by setup course number (Some upward) = omega arith

down_by : (setup : PairSetup) (course : Course) (number : ℕ) (found : Option OneSend)
    → length (down_delivered setup found course).up ≡ length course.up + sum_by ups_in (or_absent number (down_parts setup course found))
down_by setup course number None = omega arith
down_by setup course number (Some send) =
    let event = delivery_down setup send in
    reached_counted event (is_at send.to) course
    ∙ ap (λ (n : ℕ). length course.up + n) (sym (absent_ups number (gateway_parts event (filter (is_at send.to) course.members))))

-- of the datagrams to the relay
pub ups_counted : (setup : PairSetup) (course : Course) (event : PairEvent)
    → length (with_pair_event setup course event).up ≡ length course.up + sum_by ups_in (parts_of setup course event)
ups_counted setup course (MomentForAll at) =
    reached_counted (Passes at) (λ member. true) course
    ∙ ap (λ (members : List Member). length course.up + sum_by ups_in (gateway_parts (Passes at) members)) (all_pass course.members)
ups_counted setup course (SecretComes secret) = omega arith
ups_counted setup course (PacketComes bytes) = omega arith
ups_counted setup course (Socket name event) = reached_counted event (has_name name) course
ups_counted setup course (Up number) = up_by setup course number (numbered course.up number)
ups_counted setup course (Down number) = down_by setup course number (numbered course.down number)

up_downs : (setup : PairSetup) (course : Course) (number : ℕ) (found : Option Upward)
    → length (up_delivered setup found course).down ≡ length course.down + sum_by downs_in (or_absent number (up_parts setup course found))
up_downs setup course number None = omega arith
up_downs setup course number (Some upward) =
    omega (arith, length-append course.down (sends_of setup.settings setup.secret course.relay (delivery_up upward)))

down_downs : (setup : PairSetup) (course : Course) (number : ℕ) (found : Option OneSend)
    → length (down_delivered setup found course).down ≡ length course.down + sum_by downs_in (or_absent number (down_parts setup course found))
down_downs setup course number None = omega arith
down_downs setup course number (Some send) =
    let parts = gateway_parts (delivery_down setup send) (filter (is_at send.to) course.members) in
    omega (arith, absent_downs number parts, no_downs (delivery_down setup send) (filter (is_at send.to) course.members))

-- and of those of the relay
pub downs_counted : (setup : PairSetup) (course : Course) (event : PairEvent)
    → length (with_pair_event setup course event).down ≡ length course.down + sum_by downs_in (parts_of setup course event)
downs_counted setup course (MomentForAll at) =
    omega (arith, length-append course.down (sends_of setup.settings setup.secret course.relay (events.Moment at)), no_downs (Passes at) course.members)
downs_counted setup course (SecretComes secret) =
    omega (arith, length-append course.down (sends_of setup.settings setup.secret course.relay (events.Rotate secret)))
downs_counted setup course (PacketComes bytes) =
    omega (arith, length-append course.down (sends_of setup.settings setup.secret course.relay (events.Packet bytes)))
downs_counted setup course (Socket name event) = omega (arith, no_downs event (filter (has_name name) course.members))
downs_counted setup course (Up number) = up_downs setup course number (numbered course.up number)
downs_counted setup course (Down number) = down_downs setup course number (numbered course.down number)
