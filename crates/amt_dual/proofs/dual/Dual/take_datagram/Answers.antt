use Rattle.{std.proofs.Common.{ℕ, ◌≤◌, List, length, sym, ap, subst}, gateway_machine.specs.declared.event.GatewayEvent.TheVariants.{Datagram as Heard}}
use Rattle.amt_dual.proofs.dual.Dual.take_datagram.Goals as goal

pub take_heard-step-requires : goal.take_heard-step-requires
take_heard-step-requires c = λ settings. subst (λ (octets : List ℕ). length octets ≤ 65535) (sym c.in_ok-bytes.ensures) c.requires

pub returns-clause-steps : goal.returns-clause-steps
returns-clause-steps c = λ settings course at.
    c.take_heard-step.ensures.steps settings course at c.args.from.now c.args.bytes.now (ap (λ (octets : List ℕ). Heard c.args.from.now octets) c.in_ok-bytes.ensures)

pub returns-clause-next : goal.returns-clause-next
returns-clause-next c = λ settings course at.
    c.take_heard-step.ensures.next settings course at c.args.from.now c.args.bytes.now (ap (λ (octets : List ℕ). Heard c.args.from.now octets) c.in_ok-bytes.ensures)
