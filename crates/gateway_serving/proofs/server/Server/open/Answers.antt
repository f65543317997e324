use Rattle.std.{proofs.{Common.{◌≤◌, ◌+◌, ◌^◌, ◌-◌, length, refl, sym, subst, rules, arith}, lemmas.{Bool.{false≢true}, List.{length-map}}}, specs.Prelude.{All}}
use Rattle.amt_config.specs.declared.config.Join.{Join}
use Rattle.gateway_machine.specs.Events.{IsEventOf}
use Rattle.gateway_serving.{specs.{Servers.{Setup, tally_in}, Settings.{opening_of}}, proofs.{Beginning.{few_begun, first_rests, none_counted, opens_so}, Traces.{Tallies-none, alone}}}
use Rattle.gateway_serving.proofs.server.Server.open.Goals as goal

-- the first moment finds nothing due, so memory doesn't refuse it
pub returns-in_err-take-clause-opens : goal.returns-in_err-take-clause-opens
returns-in_err-take-clause-opens g c = absurd (false≢true (c.in_err-take.ensures.needs_none (first_rests _ _ _ _ c.requires.none)))

pub returns-in_err-take-clause-few : goal.returns-in_err-take-clause-few
returns-in_err-take-clause-few g c = absurd (false≢true (c.in_err-take.ensures.needs_none (first_rests _ _ _ _ c.requires.none)))

pub open_joins-requires-clause-joins : goal.open_joins-requires-clause-joins
open_joins-requires-clause-joins g c =
    subst (λ (setup : Setup). All (λ (join : Join). IsEventOf setup.settings (opening_of join)) c.args.joins.now) (sym (c.in_ok-take.ensures.takes (alone c.args.self.now)).same) c.requires.joins

pub open_joins-requires-clause-few : goal.open_joins-requires-clause-few
open_joins-requires-clause-few g c =
    let short : length c.args.joins.now ≤ 2 ^ 60 - 1 = search rules in
    let one : tally_in c.take.new.self ≤ tally_in c.args.self.now + 1 = (c.in_ok-take.ensures.takes (alone c.args.self.now)).few in
    omega (arith, short, one, none_counted c.args.self.now c.requires.none c.requires.uncounted)

pub returns-clause-opens : goal.returns-clause-opens
returns-clause-opens g c =
    opens_so c.now-self.result (refl, refl, refl, refl) (Tallies-none _) c.requires.early refl c.now-self.ensures.given c.in_ok-take.ensures.takes c.open_joins.ensures.begins

pub returns-clause-few : goal.returns-clause-few
returns-clause-few g c =
    let short : length c.args.joins.now ≤ 2 ^ 60 - 1 = search rules in
    let begins = c.open_joins.ensures.begins in
    let one : tally_in c.take.new.self ≤ tally_in c.args.self.now + 1 = (c.in_ok-take.ensures.takes (alone c.args.self.now)).few in
    let more : tally_in c.open_joins.new.self ≤ tally_in c.take.new.self + length begins.begun = (begins.does (alone c.args.self.now)).few in
    omega (arith, short, one, more, none_counted c.args.self.now c.requires.none c.requires.uncounted, few_begun _ _ begins.begun begins.is, length-map c.args.joins.now opening_of)
