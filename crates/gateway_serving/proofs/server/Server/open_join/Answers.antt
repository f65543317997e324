use Rattle.std.{proofs.{Common.{[], ◌∷◌, subst}, lemmas.Result.{err_from_is_err_and}}, specs.Prelude.{OnOk}}
use Rattle.gateway_machine.specs.declared.event.GatewayEvent.{GatewayEvent}
use Rattle.amt_ports.specs.Devices.{link_at, out_at}
use Rattle.gateway_serving.{specs.Traces.{WorkDoes, at_work, taking}, proofs.Traces.{Does-none}}
use Rattle.gateway_serving.proofs.server.Server.open_join.Goals as goal

pub returns-in_err-event-clause-none : goal.returns-in_err-event-clause-none
returns-in_err-event-clause-none g c =
    let p = err_from_is_err_and c.from_residual.result c.from_residual.ensures.1 in
    rw p.1 (λ around. Does-none _)

pub returns-clause-takes : goal.returns-clause-takes
returns-clause-takes g c =
    subst (λ (event : GatewayEvent). OnOk c.take.result (WorkDoes (taking (event ∷ []))
    (at_work c.args.self.now (link_at g.L.Link c.args.link.now) (g.L.Link.longest_wait c.args.link.now) (out_at g.O.OutLink c.args.out.now))
    (at_work c.take.new.self (link_at g.L.Link c.take.new.link) (g.L.Link.longest_wait c.take.new.link) (out_at g.O.OutLink c.take.new.out)))) c.in_ok-event.ensures c.take.ensures.takes
