use Rattle.std.{proofs.Common.{◌≤◌, ◌+◌, [], List, ℕ, refl, sym, subst, arith}, specs.Prelude.{Option}}
use Rattle.std.proofs.lemmas.List.Elements.{All-nil}
use Rattle.amt_ports.{specs.Told.{AppendsAll}, proofs.Told.{AppendsAll-none}}
use Rattle.gateway_serving.{specs.{Servers.{tally_in}, Starving.{SendsAt}}, proofs.{Stages.{begins}, Traces.{Does-at, alone, drew}}}
use Rattle.gateway_serving.proofs.server.Server.begin_turn.Goals as goal

pub returns-in_default : goal.returns-in_default
returns-in_default g c = record {
  begins = λ around. record {
    drawn = [];
    given = [];
    does = Does-at (drew _ _ [] (subst (λ (given : Option (List ℕ)). AppendsAll (g.W.Words.given c.args.words.now) given []) (sym c.in_default.ensures.kept) (AppendsAll-none _))) refl refl refl refl refl (λ _. refl) refl refl refl refl (omega arith);
    cause = record { rose = λ _. c.in_default.ensures.cause.failed; calm = λ isnt. absurd (isnt refl) };
    starve = All-nil (SendsAt _ _ _ _);
    is = (refl, refl, refl);
  };
}

pub pass_moment-requires : goal.pass_moment-requires
pass_moment-requires g c =
    let few : tally_in c.draw.new.self ≤ tally_in c.args.self.now + 1 = (c.draw.ensures.takes (alone c.args.self.now)).few in
    record { few = omega (arith, few, c.requires.few) }

pub returns : goal.returns
returns g c = record { begins = begins c.in-Ok.word c.in-Ok.ensures.given c.in-Ok.ensures.cause.quiet c.draw.ensures.takes c.pass_moment.ensures.passes }
