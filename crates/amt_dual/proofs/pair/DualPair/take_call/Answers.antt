use Rattle.{std.proofs.Common.{◌≡◌, [], ◌∷◌, ◌++◌, sym, ap, ◌∙◌}, amt_pair.{specs.{Schedule.{upwards_on}, State.{with_member_at}}, proofs.PairStates.{up_more}}, amt_dual.{specs.{InTurn.{part_of}}, proofs.DualStates.{called_one, machine_may_come, machine_part_is, stands_by}}}
use Rattle.amt_dual.proofs.pair.DualPair.take_call.Goals as goal

pub place_of-place-requires : goal.place_of-place-requires
place_of-place-requires c = (c.requires.1.0, c.requires.1.1, c.requires.1.2)

pub take_at-requires-clause-event : goal.take_at-requires-clause-event
take_at-requires-clause-event c =
    machine_may_come c.args.event.now c.args.name.now c.args.v6 c.args.self.now.gateways c.place_of-place.result c.requires.1.0 c.args.self.now.apart
    c.place_of-place.ensures.within c.place_of-place.ensures.found c.requires.1.1 c.requires.1.2 c.requires.1.3 c.requires.1.4

pub returns-clause-parts : goal.returns-clause-parts
returns-clause-parts c = λ setup course stands.
    let called = called_one c.args.event.now c.args.name.now c.args.v6 c.args.self.now.gateways course c.place_of-place.result stands.gateways c.place_of-place.ensures.within c.args.self.now.apart c.place_of-place.ensures.found in
    let part : c.part_of.result ≡ _ =
    c.part_of.ensures ∙ ap (part_of c.args.v6) (c.in_ok-part.ensures.part course.members called.member stands.gateways called.here) ∙ machine_part_is c.args.event.now c.args.v6 called.member called.family in
    c.step_of.ensures.parts ∙ c.push_reserved.ensures.items ∙ (λ i. c.in_ok-parts.ensures.items i ++ part i ∷ []) ∙ sym called.one.part

pub returns-clause-next : goal.returns-clause-next
returns-clause-next c = λ setup course stands.
    let called = called_one c.args.event.now c.args.name.now c.args.v6 c.args.self.now.gateways course c.place_of-place.result stands.gateways c.place_of-place.ensures.within c.args.self.now.apart c.place_of-place.ensures.found in
    stands_by setup (with_member_at course c.args.event.now c.place_of-place.result called.member) _ _ (record {
      relay = stands.relay;
      gateways = c.in_ok-part.ensures.next course.members called.member stands.gateways called.here;
      up = up_more c.args.self.now.up c.take_at.new.up course.up (upwards_on c.args.event.now called.member) stands.up (c.in_ok-part.ensures.sent course.members called.member stands.gateways called.here);
      down = stands.down;
    }) (sym called.one.reached)
