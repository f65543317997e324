use Rattle.std.{proofs.Common.{◌≤◌, ◌+◌, [], ap, map, sym, subst, refl, ◌∙◌, arith}, specs.Prelude.{List, Some}}
use Rattle.amt_ports.proofs.{EndCauses.{not_cause}, Told.{AppendsAll-none}}
use Rattle.relay_machine.specs.declared.event.Event.{Event}
use Rattle.relay_serving.{specs.{Happenings.{Took}, Servers.{tally_in}, Traces.{ServerDoes, nothing}, Turns.{is_due, renewed_after, words_due}}, proofs.{Stages.{begins, rotation-few, rotation-four}, Traces.{Does-at, Does-none, alone}}}
use Rattle.relay_serving.proofs.server.Server.begin_turn.Goals as goal

pub rotate-requires : goal.rotate-requires
rotate-requires g c =
    let few : tally_in c.pass_moment.new.self ≤ tally_in c.args.self.now + 1 = (c.pass_moment.ensures.passes.1 (alone c.args.self.now)).few in
    record { few = omega (arith, few, c.requires.few) }

pub returns-in-Err : goal.returns-in-Err
returns-in-Err g c =
    let rotate = c.args.rotate_ms in
    let now = c.reach.new.self.latest in
    let drawn = c.in-Err.ensures.drawn in
    let due = ap (λ renewed. is_due rotate renewed now) (sym c.reach.ensures.renewed) ∙ sym c.pass.ensures.due ∙ c.if-pass.true in record {
      begins = begins rotate _ _ _ _ now drawn.words c.reach.ensures.latest c.now.ensures.given c.pass_moment.ensures.passes drawn.given
          (subst (λ (events : List Event). ServerDoes (record nothing { happened = map Took events; tally = 1 }) c.pass_moment.new.self c.pass_moment.new.self) (sym (rotation-few drawn.words drawn.are))
          (λ around. Does-at (Does-none _) refl refl refl refl refl refl refl (omega arith) (omega arith)))
          (record { rose = λ _. c.in-Err.ensures.cause.failed; calm = λ isnt. absurd (isnt refl) }) (refl, due, drawn.are)
          (λ i. record { latest = c.pass.ensures.latest i; renewed = (c.pass.ensures.renewed ∙ ap (λ renewed. Some (renewed_after rotate renewed now)) c.reach.ensures.renewed) i });
    }

pub returns-in-Ok : goal.returns-in-Ok
returns-in-Ok g c =
    let rotate = c.args.rotate_ms in
    let now = c.reach.new.self.latest in
    let drawn = c.in-Ok.ensures.drawn in
    let due = ap (λ renewed. is_due rotate renewed now) (sym c.reach.ensures.renewed) ∙ sym c.pass.ensures.due ∙ c.if-pass.true in record {
      begins = begins rotate _ _ _ _ now drawn.words c.reach.ensures.latest c.now.ensures.given c.pass_moment.ensures.passes drawn.given
          (subst (λ (events : List Event). ServerDoes (record nothing { happened = map Took events; tally = 1 }) c.pass_moment.new.self c.rotate.new.self) (rotation-four drawn.words _ drawn.are.1 drawn.are.0) c.rotate.ensures.takes)
          (not_cause _ _ _ _ (λ is. cc) c.in-Ok.ensures.cause.quiet) (drawn.are.1 ∙ ap words_due (sym due))
          (λ i. record { latest = c.pass.ensures.latest i; renewed = (c.pass.ensures.renewed ∙ ap (λ renewed. Some (renewed_after rotate renewed now)) c.reach.ensures.renewed) i });
    }

pub returns-else-pass : goal.returns-else-pass
returns-else-pass g c =
    let rotate = c.args.rotate_ms in
    let now = c.reach.new.self.latest in
    let due = ap (λ renewed. is_due rotate renewed now) (sym c.reach.ensures.renewed) ∙ sym c.pass.ensures.due ∙ c.if-pass.false in record {
      begins = begins rotate _ _ _ _ now [] c.reach.ensures.latest c.now.ensures.given c.pass_moment.ensures.passes (AppendsAll-none _)
          (λ around. Does-at (Does-none _) refl refl refl refl refl refl refl (omega arith) (omega arith))
          (not_cause _ _ _ _ (λ is. cc) refl) (ap words_due (sym due))
          (λ i. record { latest = c.pass.ensures.latest i; renewed = (c.pass.ensures.renewed ∙ ap (λ renewed. Some (renewed_after rotate renewed now)) c.reach.ensures.renewed) i });
    }
