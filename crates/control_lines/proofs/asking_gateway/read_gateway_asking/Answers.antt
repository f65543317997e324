use Rattle.std.proofs.Common.{List, ℕ, Ok, ap, sym, subst, ◌∙◌}
use Rattle.amt_values.specs.Conditions.{First}
use Rattle.script_lines.specs.Lines.{fields}
use Rattle.control_lines.{specs.{Asking.{line_of}, AskingGateways.{FailsAtGateway, gateway_reasons}}, proofs.AskingsOfGateways.{asking_words-unique, asks_nothing}}
use Rattle.control_lines.proofs.asking_gateway.read_gateway_asking.Goals as goal

pub returns-in-Ok-clause-only : goal.returns-in-Ok-clause-only
returns-in-Ok-clause-only c = λ asking asks.
    ap Ok (asking_words-unique c.in-Ok.asking asking (sym c.in-Ok.ensures.found ∙ ap fields c.line_of-line.ensures ∙ asks.1))

pub returns-in-Err-clause-reason : goal.returns-in-Err-clause-reason
returns-in-Err-clause-reason c =
    subst (λ (line : List ℕ). First (FailsAtGateway line) gateway_reasons c.in-Err.reason) c.line_of-line.ensures c.in-Err.ensures.reason

pub returns-in-Err-clause-only : goal.returns-in-Err-clause-only
returns-in-Err-clause-only c = λ asking asks.
    absurd (asks_nothing asking (line_of c.args.line.now) c.in-Err.reason asks.0 asks.1
    (subst (λ (line : List ℕ). First (FailsAtGateway line) gateway_reasons c.in-Err.reason) c.line_of-line.ensures c.in-Err.ensures.reason))
