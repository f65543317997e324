use Rattle.std.proofs.{Common.{List, [], ◌∷◌, ◌++◌, refl, sym, ap, ◌∙◌, flat_map, take, append-nil}, lemmas.Bool.{not-false, not-true}}
use Rattle.gateway_machine.specs.declared.event.GatewayEvent.TheVariants.{Moment as Passes}
use Rattle.relay_machine.specs.declared.event.Event.TheVariants.{Moment}
use Rattle.amt_pair.{specs.{Parts.{gateway_parts}, Schedule.{upwards_on}, declared.step.Part.{Part, TheVariants.{Relay}}}, proofs.PairStates.{all_are, relay_step_is, up_more, up_of_all}}
use Rattle.amt_pair.proofs.pair.Pair.take_moment.Goals as goal

pub returns-clause-next : goal.returns-clause-next
returns-clause-next c = λ setup course stands full.
    let all = not-false c.take_moment-came_to_all.result (sym c.step_of.ensures.starved ∙ full) in
    let come = c.take_moment-came_to_all.ensures.all course.members stands.gateways all in
    record {
      relay = c.in_ok-step.ensures.next setup.settings setup.secret course.relay stands.relay;
      gateways = all_are c.args.at.now c.take_moment-came_to_all.new.self course.members come.gateways_are;
      up = up_of_all c.args.at.now c.args.self.now.up c.take_moment-came_to_all.new.up course.up course.members stands.up come.sent;
      down = stands.down ∙ sym (append-nil course.down);
    }

pub returns-clause-starved : goal.returns-clause-starved
returns-clause-starved c = λ setup course stands starved.
    let not_all = not-true c.take_moment-came_to_all.result (sym c.step_of.ensures.starved ∙ starved) in
    let some = c.take_moment-came_to_all.ensures.some course.members stands.gateways not_all in
    let at = c.args.at.now in
    let step = c.in_ok-step.step in
    let relay = c.in_ok-step.ensures.next setup.settings setup.secret course.relay stands.relay in
    let first = relay_step_is setup course (Moment at) step
    (c.in_ok-step.ensures.outcome setup.settings setup.secret course.relay stands.relay)
    (c.in_ok-step.ensures.sends setup.settings setup.secret course.relay stands.relay)
    (c.in_ok-step.ensures.change setup.settings setup.secret course.relay stands.relay) in (
      at,
      refl,
      record {
        count = some.0;
        some = some.1;
        parts_are =
            c.step_of.ensures.parts ∙ some.2.parts
            ∙ ap (λ (before : List Part). before ++ gateway_parts (Passes at) (take some.0 course.members))
            (c.push_reserved.ensures.items ∙ ap (λ (before : List Part). before ++ Relay step ∷ []) c.in_ok-parts.ensures.items ∙ first);
        stands = record {
          relay = relay;
          gateways = some.2.gateways_are;
          up = up_more c.args.self.now.up c.take_moment-came_to_all.new.up course.up (flat_map (upwards_on (Passes at)) (take some.0 course.members)) stands.up some.2.sent;
          down = stands.down ∙ sym (append-nil course.down);
        };
      },
    )
