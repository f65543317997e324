use Rattle.std.proofs.Common.{arith}
use Rattle.group_records.proofs.WrittenReport.{short-few_records}
use Rattle.group_records.proofs.writing.unsummed_report.Goals as goal

pub overflow_cast-len : goal.overflow_cast-len
overflow_cast-len c = let few = short-few_records c.args.family c.args.records.now c.requires in omega (arith, c.len.ensures)
