use Rattle.{std.proofs.{Common.{◌≡◌, true, List, [], ◌∷◌, ◌++◌, refl, sym, ap, ◌∙◌, flat_map, false, take, append-nil, subst}, lemmas.Bool.{not-false, not-true}}, gateway_machine.specs.declared.event.GatewayEvent.TheVariants.{Moment as Passes}, amt_pair.{specs.{Parts.{gateway_parts}, Schedule.{upwards_on}, Setup.{Host}, declared.step.Part.{Part}}, proofs.{MembersAt.{hosts_are}, PairStates.{all_are, on_err_by, up_more, up_of_all}}}, amt_dual.{specs.{InTurn.{parts_in_turn}, Twins.{are_twins}, declared.step.DualPart.{DualPart, TheVariants.{Relay}}}, proofs.DualStates.{AreInTurn, in_turn, same_pair, some_in_turn, turns_are}}}
use Rattle.amt_dual.proofs.pair.DualPair.take_moment.Goals as goal

pub returns-in_err-parts-clause-err : goal.returns-in_err-parts-clause-err
returns-in_err-parts-clause-err c = λ setup course stands. on_err_by c.from_residual.result refl

pub returns-in_err-machines_parts-clause-err : goal.returns-in_err-machines_parts-clause-err
returns-in_err-machines_parts-clause-err c = λ setup course stands. on_err_by c.from_residual-in_err-machines_parts.result refl

pub returns-in_err-step-clause-err : goal.returns-in_err-step-clause-err
returns-in_err-step-clause-err c = λ setup course stands.
    on_err_by c.from_residual-in_err-step.result
    (same_pair c.args.self.now c.pass.new.relay c.args.self.now.gateways c.args.self.now.up c.args.self.now.down _ _ _ _ _ _ c.in_err-step.ensures.err refl refl refl)

pub returns-clause-parts : goal.returns-clause-parts
returns-clause-parts c = λ setup course stands full.
    let all = not-false c.take_moment-came_to_all.result (sym c.step_of.ensures.starved ∙ full) in
    let come = c.take_moment-came_to_all.ensures.all course.members stands.gateways all in
    let turns : AreInTurn false course.members =
    in_turn course.members (subst (λ (hosts : List Host). are_twins hosts ≡ true) (hosts_are c.args.self.now.gateways course.members stands.gateways) c.args.self.now.twins) in
    c.step_of.ensures.parts ∙ c.push_in_turn.ensures
    ∙ ap (λ (before : List DualPart). before ++ parts_in_turn false c.take_moment-came_to_all.new.parts.items)
    (c.push_reserved.ensures.items ∙ ap (λ (before : List DualPart). before ++ Relay c.in_ok-step.step ∷ []) c.in_ok-parts.ensures.items)
    ∙ (λ i. Relay (c.in_ok-step.ensures.step setup course stands.relay i) ∷ (ap (parts_in_turn false) (come.parts ∙ ap (λ (before : List Part). before ++ gateway_parts (Passes c.args.at.now) course.members) c.in_ok-machines_parts.ensures.items)
    ∙ turns_are (Passes c.args.at.now) false course.members turns) i)

pub returns-clause-next : goal.returns-clause-next
returns-clause-next c = λ setup course stands full.
    let all = not-false c.take_moment-came_to_all.result (sym c.step_of.ensures.starved ∙ full) in
    let come = c.take_moment-came_to_all.ensures.all course.members stands.gateways all in
    record {
      relay = c.in_ok-step.ensures.next setup course stands.relay;
      gateways = all_are c.args.at.now c.take_moment-came_to_all.new.self course.members come.gateways_are;
      up = up_of_all c.args.at.now c.args.self.now.up c.take_moment-came_to_all.new.up course.up course.members stands.up come.sent;
      down = stands.down ∙ sym (append-nil course.down);
    }

pub returns-clause-starved : goal.returns-clause-starved
returns-clause-starved c = λ setup course stands starved.
    let not_all = not-true c.take_moment-came_to_all.result (sym c.step_of.ensures.starved ∙ starved) in
    let some = c.take_moment-came_to_all.ensures.some course.members stands.gateways not_all in
    let turns : AreInTurn false course.members =
    in_turn course.members (subst (λ (hosts : List Host). are_twins hosts ≡ true) (hosts_are c.args.self.now.gateways course.members stands.gateways) c.args.self.now.twins) in (
      c.args.at.now,
      refl,
      record {
        count = some.0;
        some = some.1;
        parts_are =
            c.step_of.ensures.parts ∙ c.push_in_turn.ensures
            ∙ ap (λ (before : List DualPart). before ++ parts_in_turn false c.take_moment-came_to_all.new.parts.items)
            (c.push_reserved.ensures.items ∙ ap (λ (before : List DualPart). before ++ Relay c.in_ok-step.step ∷ []) c.in_ok-parts.ensures.items)
            ∙ (λ i. Relay (c.in_ok-step.ensures.step setup course stands.relay i) ∷ (ap (parts_in_turn false) (some.2.parts ∙ ap (λ (before : List Part). before ++ gateway_parts (Passes c.args.at.now) (take some.0 course.members)) c.in_ok-machines_parts.ensures.items)
            ∙ turns_are (Passes c.args.at.now) false (take some.0 course.members) (some_in_turn some.0 false course.members turns)) i);
        stands = record {
          relay = c.in_ok-step.ensures.next setup course stands.relay;
          gateways = some.2.gateways_are;
          up = up_more c.args.self.now.up c.take_moment-came_to_all.new.up course.up (flat_map (upwards_on (Passes c.args.at.now)) (take some.0 course.members)) stands.up some.2.sent;
          down = stands.down ∙ sym (append-nil course.down);
        };
      },
    )
