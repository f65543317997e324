use Rattle.std.proofs.{Common.{◌≤◌, ◌+◌, refl, ap, ◌∙◌, arith}, lemmas.Result.{err_from_is_err_and}}
use Rattle.gateway_serving.{specs.Servers.{Setup, tally_in}, proofs.{Beginning.{begins_all, begins_refused, joins_more}, Traces.{Does-none, alone, taking_then}}}
use Rattle.gateway_serving.proofs.server.Server.open_joins.Goals as goal

pub loop-join-init : goal.loop-join-init
loop-join-init g c = record { opened = λ around. Does-none _; same_settings = refl; few = omega arith }

pub returns-in_err-open_join : goal.returns-in_err-open_join
returns-in_err-open_join g c =
    let p = err_from_is_err_and c.from_residual.result c.from_residual.ensures.1 in
    record { begins = rw p.1 (begins_refused _ c.args.joins.now c.loop-join.join-index c.join-item.result c.loop-join-test.true c.join-item.is c.loop-join.invariant.opened c.in_err-open_join.ensures.none) }

pub loop-join-preserved : goal.loop-join-preserved
loop-join-preserved g c =
    let before = c.loop-join.invariant in
    let takes = c.in_ok-open_join.ensures.takes in
    let took = takes (alone c.args.self.now) in
    let few : tally_in c.open_join.new.self ≤ tally_in c.loop-join.self + 1 = took.few in record {
      opened = taking_then before.opened takes (joins_more c.args.joins.now c.loop-join.join-index c.join-item.result c.loop-join-test.true c.join-item.is);
      same_settings = ap (λ (setup : Setup). setup.settings) took.same ∙ before.same_settings;
      few = omega (arith, before.few, few);
    }

pub returns : goal.returns
returns g c = record { begins = begins_all c.args.joins.now c.loop-join.join-index (omega (arith, c.loop-join-test.false, c.loop-join.auto.join-index-end)) c.loop-join.invariant.opened }
