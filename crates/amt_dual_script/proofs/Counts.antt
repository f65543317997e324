-- How many datagrams are sent in the parts of an event: as many as in parts of a pair, whose names say nothing of it.
use Rattle.std.{proofs.{Common.{◌≡◌, ℕ, ◌+◌, Bool, List, [], ◌∷◌, length, map, Option, Some, None, refl, sym, ap, ◌∙◌, arith}, lemmas.List.{Sums.{sum_by-cons}}}, specs.List.{filter, sum_by}}
use Rattle.gateway_machine.specs.declared.event.GatewayEvent.{GatewayEvent, TheVariants.{Moment as Passes}}
use Rattle.relay_machine.specs.declared.{event.Event.TheVariants.{Moment}, sends.OneSend.{OneSend}}
use Rattle.amt_pair.specs.{Parts.{gateway_part, gateway_parts, parts_of, relay_step}, Schedule.{Course, Member, Upward, delivery_down, numbered}, Setup.{PairSetup}, declared.step.Part.{Part, TheVariants.{Relay}}}
use Rattle.amt_pair.specs.Parts.{or_absent as pair_or_absent, up_parts as pair_up_parts}
use Rattle.amt_pair.specs.declared.event.PairEvent.TheVariants as pair_events
use Rattle.pair_script.{specs.Texts.{downs_in, ups_in}, proofs.Counts.{downs_counted, no_downs, reached_counted, ups_counted}}
use Rattle.amt_dual.specs.{Parts.{down_parts, dual_parts_of, machine_part, machine_parts, or_absent, up_parts}, Schedule.{down_taken, is_called, takes_delivery, with_dual_pair_event}, declared.{event.DualPairEvent.{DualPairEvent}, step.DualPart.{DualPart}}}
use Rattle.amt_dual.specs.declared.event.DualPairEvent.TheVariants as events
use Rattle.amt_dual_script.specs.Texts.{part_named}

-- what is counted in a part, by whatever name
abbrev Counts : (Part → ℕ) → Type 0
Counts count = (event : GatewayEvent) (member : Member) → count (part_named (machine_part event member)) ≡ count (gateway_part event member)

machines_counted : (count : Part → ℕ) → Counts count → (event : GatewayEvent) (members : List Member)
    → sum_by count (map part_named (machine_parts event members)) ≡ sum_by count (gateway_parts event members)
machines_counted count same event [] = refl
machines_counted count same event (member ∷ members) =
    let rest = machines_counted count same event members in
    sum_by-cons count (part_named (machine_part event member)) (map part_named (machine_parts event members))
    ∙ (ap (λ (n : ℕ). n + sum_by count (map part_named (machine_parts event members))) (same event member)
    ∙ (ap (λ (n : ℕ). count (gateway_part event member) + n) rest
    ∙ sym (sum_by-cons count (gateway_part event member) (gateway_parts event members))))

-- a moment comes to the relay first
moment_counted : (count : Part → ℕ) → Counts count → (setup : PairSetup) (course : Course) (at : ℕ)
    → sum_by count (map part_named (dual_parts_of setup course (events.Moment at))) ≡ sum_by count (parts_of setup course (pair_events.Moment at))
moment_counted count same setup course at =
    let first = Relay (relay_step setup course (Moment at)) in
    sum_by-cons count first (map part_named (machine_parts (Passes at) course.members))
    ∙ (ap (λ (n : ℕ). count first + n) (machines_counted count same (Passes at) course.members)
    ∙ sym (sum_by-cons count first (gateway_parts (Passes at) course.members)))

-- an absent datagram counts as nothing
absent : (count : Part → ℕ) (number : ℕ) (parts : List DualPart) → sum_by count (map part_named (or_absent number [])) ≡ sum_by count []
    → sum_by count (map part_named (or_absent number parts)) ≡ sum_by count (map part_named parts)
absent count number [] none = none
absent count number (first ∷ more) none = refl

-- a delivery to the relay is that of a pair
same_up : (setup : PairSetup) (course : Course) (number : ℕ) (found : Option Upward)
    → map part_named (or_absent number (up_parts setup course found)) ≡ pair_or_absent number (pair_up_parts setup course found)
same_up setup course number None = refl
same_up setup course number (Some upward) = refl

-- ---- the datagrams to the relay

ups_by : (event : GatewayEvent) (reaches : Member → Bool) (course : Course)
    → length course.up + sum_by ups_in (gateway_parts event (filter reaches course.members))
    ≡ length course.up + sum_by ups_in (map part_named (machine_parts event (filter reaches course.members)))
ups_by event reaches course = ap (λ (n : ℕ). length course.up + n) (sym (machines_counted ups_in (λ event member. refl) event (filter reaches course.members)))

down_by : (setup : PairSetup) (course : Course) (number : ℕ) (found : Option OneSend)
    → length (down_taken setup found course).up ≡ length course.up + sum_by ups_in (map part_named (or_absent number (down_parts setup course found)))
down_by setup course number None = omega arith
down_by setup course number (Some send) =
    let event = delivery_down setup send in
    let reaches = takes_delivery setup course.members send in
    reached_counted event reaches course
    ∙ (ups_by event reaches course ∙ ap (λ (n : ℕ). length course.up + n) (sym (absent ups_in number (machine_parts event (filter reaches course.members)) refl)))

pub dual_ups_counted : (setup : PairSetup) (course : Course) (event : DualPairEvent)
    → length (with_dual_pair_event setup course event).up ≡ length course.up + sum_by ups_in (map part_named (dual_parts_of setup course event))
dual_ups_counted setup course (events.Moment at) =
    ups_counted setup course (pair_events.Moment at) ∙ ap (λ (n : ℕ). length course.up + n) (sym (moment_counted ups_in (λ event member. refl) setup course at))
dual_ups_counted setup course (events.Rotate secret) = ups_counted setup course (pair_events.Rotate secret)
dual_ups_counted setup course (events.Packet bytes) = ups_counted setup course (pair_events.Packet bytes)
dual_ups_counted setup course (events.Socket name v6 event) = reached_counted event (is_called name v6) course ∙ ups_by event (is_called name v6) course
dual_ups_counted setup course (events.Up number) =
    ups_counted setup course (pair_events.Up number)
    ∙ ap (λ (parts : List Part). length course.up + sum_by ups_in parts) (sym (same_up setup course number (numbered course.up number)))
dual_ups_counted setup course (events.Down number) = down_by setup course number (numbered course.down number)

-- ---- those of the relay

-- machines send none
none_down : (event : GatewayEvent) (members : List Member) → sum_by downs_in (map part_named (machine_parts event members)) ≡ 0
none_down event members = machines_counted downs_in (λ event member. refl) event members ∙ no_downs event members

down_downs : (setup : PairSetup) (course : Course) (number : ℕ) (found : Option OneSend)
    → length (down_taken setup found course).down ≡ length course.down + sum_by downs_in (map part_named (or_absent number (down_parts setup course found)))
down_downs setup course number None = omega arith
down_downs setup course number (Some send) =
    let event = delivery_down setup send in
    let reached = filter (takes_delivery setup course.members send) course.members in
    omega (arith, absent downs_in number (machine_parts event reached) refl, none_down event reached)

pub dual_downs_counted : (setup : PairSetup) (course : Course) (event : DualPairEvent)
    → length (with_dual_pair_event setup course event).down ≡ length course.down + sum_by downs_in (map part_named (dual_parts_of setup course event))
dual_downs_counted setup course (events.Moment at) =
    downs_counted setup course (pair_events.Moment at) ∙ ap (λ (n : ℕ). length course.down + n) (sym (moment_counted downs_in (λ event member. refl) setup course at))
dual_downs_counted setup course (events.Rotate secret) = downs_counted setup course (pair_events.Rotate secret)
dual_downs_counted setup course (events.Packet bytes) = downs_counted setup course (pair_events.Packet bytes)
dual_downs_counted setup course (events.Socket name v6 event) = omega (arith, none_down event (filter (is_called name v6) course.members))
dual_downs_counted setup course (events.Up number) =
    downs_counted setup course (pair_events.Up number)
    ∙ ap (λ (parts : List Part). length course.down + sum_by downs_in parts) (sym (same_up setup course number (numbered course.up number)))
dual_downs_counted setup course (events.Down number) = down_downs setup course number (numbered course.down number)
