use Rattle.std.proofs.Common.{None}
use Rattle.amt_dump.specs.{Dump.{IsDump}, Lines.{dump_kind}}
use Rattle.amt_command.proofs.Commands.{fault_by}
use Rattle.amt_command.proofs.texts.DumpHasTask.read.Goals as goal

pub returns-in-Err-clause-fault : goal.returns-in-Err-clause-fault
returns-in-Err-clause-fault c =
    fault_by dump_kind IsDump (λ text. text) (λ text. None) c.args.bytes.now (λ text dump. (dump.datagrams, dump.spelled))
    c.in-Err.error c.line_fault.result c.line_fault.ensures c.in-Err.ensures.fault c.in-Err.ensures.none
