use Rattle.std.proofs.Common.{IfErr, sym, subst}
use Rattle.script_lines.specs.{Lines.{fields}, Reading.{FailsFirst}}
use Rattle.amt_vectors.specs.{declared.kind.RowKind.{RowKind}, Fault.{FailsAs, order_of_values}}
use Rattle.amt_vectors.proofs.line.read_kind.Goals as goal

pub returns-in-Code4-clause-reason : goal.returns-in-Code4-clause-reason
returns-in-Code4-clause-reason c =
    subst (λ (kind : RowKind). IfErr c.read_code4.result (FailsFirst (FailsAs kind (fields c.args.values.now)) order_of_values)) (sym c.in-Code4.is) c.read_code4.ensures.reason

pub returns-in-Code6-clause-reason : goal.returns-in-Code6-clause-reason
returns-in-Code6-clause-reason c =
    subst (λ (kind : RowKind). IfErr c.read_code6.result (FailsFirst (FailsAs kind (fields c.args.values.now)) order_of_values)) (sym c.in-Code6.is) c.read_code6.ensures.reason
