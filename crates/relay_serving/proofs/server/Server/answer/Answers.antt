use Rattle.std.{proofs.Common.{false, refl, subst, sym, ℕ}, specs.Prelude.{Option, Some}}
use Rattle.relay_serving.{specs.{AskingServers.{AnswersSo, AsksSo}, Controls.{control_at, controls_at}, Traces.{ServerDoes, refusing}, declared.control.Control.{Control}}, proofs.Traces.{Does-none}}
use Rattle.relay_serving.proofs.server.Server.answer.Goals as goal

pub returns-in_default-clause-asks : goal.returns-in_default-clause-asks
returns-in_default-clause-asks g c =
    subst (λ (control : Option (Control g.row.K.Denot g.row.N.Denot)). AsksSo c.args.workers c.args.turns c.args.self.now c.args.self.now (controls_at g.K.Link g.N.Copies control) (controls_at g.K.Link g.N.Copies control) false)
    (sym c.in_default.is) (refl, λ around. Does-none _)

pub returns-clause-asks : goal.returns-clause-asks
returns-clause-asks g c =
    let lines = c.answer_lines-lines.ensures.round in
    let after = control_at g.K.Link g.N.Copies c.answer_lines-lines.new.control in
    let so : AnswersSo c.args.workers c.args.turns c.args.self.now c.starve.new.self (control_at g.K.Link g.N.Copies c.in-Some.control) after c.answer_lines-lines.result.stops = record {
      round = lines.round;
      is_round = lines.is_round;
      stops_is = lines.stops_is;
      does = subst (λ (number : ℕ). ServerDoes (refusing number) c.args.self.now c.starve.new.self) lines.refused_is c.starve.ensures.starves;
    } in
    subst (λ (control : Option (Control g.row.K.Denot g.row.N.Denot)). AsksSo c.args.workers c.args.turns c.args.self.now c.starve.new.self (controls_at g.K.Link g.N.Copies control) (Some after) c.answer_lines-lines.result.stops)
    (sym c.in-Some.is) so
