use Rattle.std.proofs.Common.{◌≡◌, ap, sym, subst, ◌∙◌}
use Rattle.gateway_machine.specs.{Outcomes.{IsRefused}, Runs.{GatewayAt}, declared.{gateway.Gateway.{Gateway}, outcome.GatewayOutcome.{GatewayOutcome}}}
use Rattle.amt_pair.proofs.{MembersAt.{sent_by, short_more}, RefusedSends.{refused-up}}
use Rattle.amt_pair.proofs.gateways.NamedGateway.take.Goals as goal

pub returns-clause-sent : goal.returns-clause-sent
returns-clause-sent c = λ member at.
    let stands : GatewayAt c.in_ok-gateway.gateway member.host.settings member.first member.events =
    subst (λ (gateway : Gateway). GatewayAt gateway member.host.settings member.first member.events) (sym c.in_ok-gateway.ensures) at.gateway in
    sent_by c.args.self.now member c.args.event.now c.in_ok-step.step.sends c.as_slice-2.result.now c.args.up.now c.in_ok-sent.sent.items c.append.new.self
    at (c.in_ok-step.ensures.sends member.host.settings member.first member.events stands) c.as_slice-2.ensures c.in_ok-sent.ensures c.in_ok-append.ensures.ok

pub returns-clause-short : goal.returns-clause-short
returns-clause-short c =
    short_more c.args.self.now.peer c.in_ok-step.step.sends c.as_slice-2.result.now c.args.up.now c.in_ok-sent.sent.items c.append.new.self
    c.requires.short c.in_ok-step.ensures.short c.as_slice-2.ensures c.in_ok-sent.ensures c.in_ok-append.ensures.ok

pub returns-clause-ignored : goal.returns-clause-ignored
returns-clause-ignored c = λ member at refused.
    let stands : GatewayAt c.in_ok-gateway.gateway member.host.settings member.first member.events =
    subst (λ (gateway : Gateway). GatewayAt gateway member.host.settings member.first member.events) (sym c.in_ok-gateway.ensures) at.gateway in
    let outcome = c.in_ok-step.ensures.outcome member.host.settings member.first member.events stands in
    let same : c.step.new.self ≡ c.args.self.now.gateway =
    c.in_ok-step.ensures.same (subst (λ (outcome : GatewayOutcome). IsRefused outcome) (sym outcome) refused) ∙ c.in_ok-gateway.ensures in (
      ap (λ (gateway : Gateway). record c.args.self.now { gateway = gateway }) same,
      returns-clause-sent c member at ∙ refused-up member c.args.event.now c.args.up.now refused,
    )
