use Rattle.std.proofs.Common.{max, ap, sym, ◌∙◌, arith}
use Rattle.gateway_machine.proofs.DueMoments.{awake-quiet}
use Rattle.gateway_machine.proofs.moment.due_at.Goals as goal

pub returns-clause-due : goal.returns-clause-due
returns-clause-due c settings history at small =
    let exchange = c.args.exchange.now in
    awake-quiet settings exchange history at c.max.result c.new.result (sym c.is_idle.ensures ∙ c.if-is_idle.false) c.new.ensures.none c.new.ensures.value
    (c.max.ensures ∙ ap (max exchange.due_ms) c.ms-now.ensures.value) (omega (arith, c.ms-now.ensures.value, c.ms-now.ensures.small)) small
