use Rattle.amt_vectors.specs.{Kind.{vector_kind}, Report.{IsVectorsReport}, Texts.{difference_of, suite_text}}
use Rattle.amt_command.proofs.Commands.{fault_by}
use Rattle.amt_command.proofs.texts.VectorsHasTask.read.Goals as goal

pub returns-in-Err-clause-fault : goal.returns-in-Err-clause-fault
returns-in-Err-clause-fault c =
    fault_by vector_kind IsVectorsReport suite_text difference_of c.args.bytes.now (λ suite report. (report.rows, report.spells))
    c.in-Err.error c.line_fault.result c.line_fault.ensures c.in-Err.ensures.fault c.in-Err.ensures.none
