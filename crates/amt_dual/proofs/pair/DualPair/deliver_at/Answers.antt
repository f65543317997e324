use Rattle.{std.proofs.{Common.{◌≡◌, ◌≢◌, ◌+◌, ℕ, false, true, List, [], ◌∷◌, ◌++◌, get_or, set, refl, sym, ap, ◌∙◌, arith}, lemmas.{Bool.{cond-false, cond-true}, List.{get_or-set_other}}}, amt_pair.{specs.{Members.{AreMembersAt}, Schedule.{Course, Member, answer_at, upwards_on, with_gateway_event}, State.{with_member_at}}, proofs.PairStates.{on_err_by, up_more}}, amt_dual.{specs.{Answers.{is_ignored}, InTurn.{part_of}, Parts.{machine_part}, declared.step.DualPart.{DualPart}}, proofs.{DualStates.{ignored_by, machine_part_is, refused-ignored, same_pair, stands_by}, TwinPlaces.{twin-first, twin-second}}}}
use Rattle.amt_dual.proofs.pair.DualPair.deliver_at.Goals as goal

pub take_at-requires-clause-event : goal.take_at-requires-clause-event
take_at-requires-clause-event c = λ default. c.requires.event _

pub take_at-requires-2-clause-event : goal.take_at-requires-2-clause-event
take_at-requires-2-clause-event c = λ default. c.requires.event _

pub returns-in_err-v6-clause-err : goal.returns-in_err-v6-clause-err
returns-in_err-v6-clause-err c = λ setup course v4 v6 stands here next twins.
    let part = c.in_ok-v4.ensures.part course.members v4 stands.gateways here in
    let ignored : is_ignored (answer_at v4 c.args.event.now).outcome ≡ true =
    sym (ignored_by c.args.event.now c.in_ok-v4.v4 v4 c.was_ignored-ignored.result part c.was_ignored-ignored.ensures) ∙ c.if-not-ignored.false in
    let same = c.in_ok-v4.ensures.ignored course.members v4 stands.gateways here (refused-ignored (answer_at v4 c.args.event.now).outcome ignored) in
    on_err_by c.from_residual-in_err-v6.result
    (same_pair c.args.self.now c.args.self.now.relay c.take_at-2.new.self c.take_at-2.new.up c.args.self.now.down _ _ _ _ _ _ refl (c.in_err-v6.ensures.same ∙ same.0) (c.in_err-v6.ensures.same_up ∙ same.1) refl)

pub returns-then-not-ignored-clause-parts : goal.returns-then-not-ignored-clause-parts
returns-then-not-ignored-clause-parts c = λ setup course v4 v6 stands here next twins.
    let part = c.in_ok-v4.ensures.part course.members v4 stands.gateways here in
    let taken : is_ignored (answer_at v4 c.args.event.now).outcome ≡ false =
    sym (ignored_by c.args.event.now c.in_ok-v4.v4 v4 c.was_ignored-ignored.result part c.was_ignored-ignored.ensures) ∙ c.if-not-ignored.true in
    let one : c.part_of.result ≡ machine_part c.args.event.now v4 =
    c.part_of.ensures ∙ ap (part_of false) part ∙ machine_part_is c.args.event.now false v4 (twin-first v4.host v6.host twins) in
    c.step_of.ensures.parts ∙ c.push_reserved.ensures.items ∙ (λ i. c.in_ok-parts.ensures.items i ++ one i ∷ [])
    ∙ sym (cond-false (is_ignored (answer_at v4 c.args.event.now).outcome) (machine_part c.args.event.now v4 ∷ machine_part c.args.event.now v6 ∷ []) (machine_part c.args.event.now v4 ∷ []) taken)

pub returns-then-not-ignored-clause-next : goal.returns-then-not-ignored-clause-next
returns-then-not-ignored-clause-next c = λ setup course v4 v6 stands here next twins.
    let part = c.in_ok-v4.ensures.part course.members v4 stands.gateways here in
    let taken : is_ignored (answer_at v4 c.args.event.now).outcome ≡ false =
    sym (ignored_by c.args.event.now c.in_ok-v4.v4 v4 c.was_ignored-ignored.result part c.was_ignored-ignored.ensures) ∙ c.if-not-ignored.true in
    let after : Course = with_member_at course c.args.event.now c.args.place v4 in
    stands_by setup after _ _ (record {
      relay = stands.relay;
      gateways = c.in_ok-v4.ensures.next course.members v4 stands.gateways here;
      up = up_more c.args.self.now.up c.take_at.new.up course.up (upwards_on c.args.event.now v4) stands.up (c.in_ok-v4.ensures.sent course.members v4 stands.gateways here);
      down = stands.down;
    })
    (sym (cond-false (is_ignored (answer_at v4 c.args.event.now).outcome) (with_member_at after c.args.event.now (c.args.place + 1) v6) after taken))

pub returns-clause-parts : goal.returns-clause-parts
returns-clause-parts c = λ setup course v4 v6 stands here next twins.
    let part = c.in_ok-v4.ensures.part course.members v4 stands.gateways here in
    let ignored : is_ignored (answer_at v4 c.args.event.now).outcome ≡ true =
    sym (ignored_by c.args.event.now c.in_ok-v4.v4 v4 c.was_ignored-ignored.result part c.was_ignored-ignored.ensures) ∙ c.if-not-ignored.false in
    let members : List Member = set course.members c.args.place (with_gateway_event c.args.event.now v4) in
    let now : AreMembersAt c.take_at.new.self members = c.in_ok-v4.ensures.next course.members v4 stands.gateways here in
    let apart : c.next_place-next.result ≢ c.args.place = λ same. omega (arith, c.next_place-next.ensures) in
    let there : get_or members c.next_place-next.result v6 ≡ v6 =
    get_or-set_other course.members c.args.place c.next_place-next.result (with_gateway_event c.args.event.now v4) v6 apart
    ∙ ap (λ (k : ℕ). get_or course.members k v6) c.next_place-next.ensures ∙ next in
    let one : c.part_of.result ≡ machine_part c.args.event.now v4 =
    c.part_of.ensures ∙ ap (part_of false) part ∙ machine_part_is c.args.event.now false v4 (twin-first v4.host v6.host twins) in
    let other : c.part_of-2.result ≡ machine_part c.args.event.now v6 =
    c.part_of-2.ensures ∙ ap (part_of true) (c.in_ok-v6.ensures.part members v6 now there) ∙ machine_part_is c.args.event.now true v6 (twin-second v4.host v6.host twins) in
    c.step_of-2.ensures.parts ∙ c.push_reserved-2.ensures.items
    ∙ ap (λ (before : List DualPart). before ++ c.part_of-2.result ∷ []) c.push_reserved.ensures.items
    ∙ (λ i. (c.in_ok-parts.ensures.items i ++ one i ∷ []) ++ other i ∷ [])
    ∙ sym (cond-true (is_ignored (answer_at v4 c.args.event.now).outcome) (machine_part c.args.event.now v4 ∷ machine_part c.args.event.now v6 ∷ []) (machine_part c.args.event.now v4 ∷ []) ignored)

pub returns-clause-next : goal.returns-clause-next
returns-clause-next c = λ setup course v4 v6 stands here next twins.
    let part = c.in_ok-v4.ensures.part course.members v4 stands.gateways here in
    let ignored : is_ignored (answer_at v4 c.args.event.now).outcome ≡ true =
    sym (ignored_by c.args.event.now c.in_ok-v4.v4 v4 c.was_ignored-ignored.result part c.was_ignored-ignored.ensures) ∙ c.if-not-ignored.false in
    let members : List Member = set course.members c.args.place (with_gateway_event c.args.event.now v4) in
    let now : AreMembersAt c.take_at.new.self members = c.in_ok-v4.ensures.next course.members v4 stands.gateways here in
    let apart : c.next_place-next.result ≢ c.args.place = λ same. omega (arith, c.next_place-next.ensures) in
    let there : get_or members c.next_place-next.result v6 ≡ v6 =
    get_or-set_other course.members c.args.place c.next_place-next.result (with_gateway_event c.args.event.now v4) v6 apart
    ∙ ap (λ (k : ℕ). get_or course.members k v6) c.next_place-next.ensures ∙ next in
    let first = up_more c.args.self.now.up c.take_at.new.up course.up (upwards_on c.args.event.now v4) stands.up (c.in_ok-v4.ensures.sent course.members v4 stands.gateways here) in
    let after : Course = with_member_at course c.args.event.now c.args.place v4 in
    stands_by setup (with_member_at after c.args.event.now c.next_place-next.result v6) _ _ (record {
      relay = stands.relay;
      gateways = c.in_ok-v6.ensures.next members v6 now there;
      up = up_more c.take_at.new.up c.take_at-2.new.up after.up (upwards_on c.args.event.now v6) first (c.in_ok-v6.ensures.sent members v6 now there);
      down = stands.down;
    })
    (ap (λ (k : ℕ). with_member_at after c.args.event.now k v6) c.next_place-next.ensures
    ∙ sym (cond-true (is_ignored (answer_at v4 c.args.event.now).outcome) (with_member_at after c.args.event.now (c.args.place + 1) v6) after ignored))

pub returns-in_err-parts-clause-err : goal.returns-in_err-parts-clause-err
returns-in_err-parts-clause-err c = λ setup course v4 v6 stands here next twins. on_err_by c.from_residual.result refl

pub returns-in_err-v4-clause-err : goal.returns-in_err-v4-clause-err
returns-in_err-v4-clause-err c = λ setup course v4 v6 stands here next twins.
    on_err_by c.from_residual-in_err-v4.result
    (same_pair c.args.self.now c.args.self.now.relay c.take_at.new.self c.take_at.new.up c.args.self.now.down _ _ _ _ _ _ refl c.in_err-v4.ensures.same c.in_err-v4.ensures.same_up refl)
