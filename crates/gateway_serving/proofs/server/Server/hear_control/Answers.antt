use Rattle.std.proofs.{Common.{◌+◌, ◌*◌, ◌≤◌, length, arith}, lemmas.Result.{err_from_is_err_and}}
use Rattle.amt_ports.proofs.SoFar.{all_asked, none_asked, one_more, then_ends, then_nothing}
use Rattle.gateway_serving.{specs.{Servers.{family_in, tally_in}, Traces.{by_control}}, proofs.{Lines.{same_family}, Traces.{alone, none_read, reads_on}, Waiting.{few_askers}}}
use Rattle.gateway_serving.proofs.server.Server.hear_control.Goals as goal

pub loop-init : goal.loop-init
loop-init g c = record { read = λ around. none_asked (by_control _) _ (none_read _) }

pub hear_control_next-requires : goal.hear_control_next-requires
hear_control_next-requires g c =
    let sofar = c.loop.invariant.read (alone c.args.self.now) in
    let few : tally_in c.loop.self ≤ tally_in c.args.self.now + 2 * length sofar.answers = sofar.goes.does.few in record {
      room = omega (arith, sofar.goes.does.same_room, c.requires.room);
      few = omega (arith, few, sofar.as_many, c.loop-test.true, c.requires.few);
      few_askers = few_askers _ _ _ c.requires.no_askers sofar.goes.asked sofar.as_many c.loop-test.true;
    }

pub returns-in_err-hear_control_next : goal.returns-in_err-hear_control_next
returns-in_err-hear_control_next g c = record {
  lines =
      let p = err_from_is_err_and c.from_residual.result c.from_residual.ensures.1 in
      rw (p.1, p.2) (λ around.
      let sofar = c.loop.invariant.read around in
      then_ends (by_control (family_in c.args.self.now)) (reads_on (family_in c.args.self.now)) _ _ _ _ sofar _ c.loop-test.true (same_family sofar.goes.does.same (c.in_err-hear_control_next.ensures.lines around)));
}

pub returns-in-Nothing : goal.returns-in-Nothing
returns-in-Nothing g c = record {
  lines = λ around.
      let sofar = c.loop.invariant.read around in
      then_nothing (by_control (family_in c.args.self.now)) (reads_on (family_in c.args.self.now)) _ _ _ _ sofar _ c.in-Nothing.is c.loop-test.true (same_family sofar.goes.does.same (c.in_ok-hear_control_next.ensures.lines around));
}

pub loop-preserved : goal.loop-preserved
loop-preserved g c = record {
  read = λ around.
      let sofar = c.loop.invariant.read around in
      one_more (by_control (family_in c.args.self.now)) (reads_on (family_in c.args.self.now)) _ _ _ _ sofar _ c.in-Something.is (same_family sofar.goes.does.same (c.in_ok-hear_control_next.ensures.lines around));
}

pub returns : goal.returns
returns g c = record { lines = λ around. all_asked (by_control _) _ _ _ (omega (arith, c.loop-test.false, c.loop.auto.counter-end)) (c.loop.invariant.read around) }
