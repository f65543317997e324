use Rattle.std.proofs.Common.{true, false, [], ◌∷◌, refl, arith}
use Rattle.relay_machine.specs.{Answers.{outcome_of}, declared.event.Event.TheVariants.{Moment}}
use Rattle.relay_serving.{specs.{Happenings.{Took}, Servers.{events_in, first_in, settings_in}}, proofs.Traces.{Does-then, adds_outcome, nothing_does, server_does}}
use Rattle.relay_serving.proofs.server.Server.pass_moment.Goals as goal

pub returns-in-Ok : goal.returns-in-Ok
returns-in-Ok g c =
    let event = Moment c.args.at in
    let outcome = outcome_of (settings_in c.args.self.now) (first_in c.args.self.now) (events_in c.args.self.now) event in
    record { passes = (false, server_does (Took event ∷ []) 0 0 1 0 c.in-Ok.ensures.events (adds_outcome _ _ event outcome c.in-Ok.ensures.counts refl) refl (omega arith)) }

pub returns : goal.returns
returns g c = record { passes = (true, λ around. Does-then (nothing_does c.in-Err.ensures.err around) (c.starve.ensures.starves around)) }
