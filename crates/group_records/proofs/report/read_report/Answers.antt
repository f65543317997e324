use Rattle.std.proofs.Common.{rules}
use Rattle.amt_values.specs.Octets.{AreOctets}
use Rattle.group_records.proofs.{ReportReadings.{answer_fault, answer_found, answer_only, answer_refused}, ItemCounts.{answer_few}}
use Rattle.group_records.proofs.report.read_report.Goals as goal

pub returns-clause-found : goal.returns-clause-found
returns-clause-found c =
    let small : AreOctets c.args.payload.now = search rules in
    answer_found c.args.family c.args.pseudo_header.now c.args.payload.now c.read.result small c.read.ensures.value

pub returns-clause-only : goal.returns-clause-only
returns-clause-only c = answer_only c.args.family c.args.pseudo_header.now c.args.payload.now c.read.result c.read.ensures.value

pub returns-clause-refused : goal.returns-clause-refused
returns-clause-refused c = answer_refused c.args.family c.args.pseudo_header.now c.args.payload.now c.read.result c.read.ensures.value

pub returns-clause-fault : goal.returns-clause-fault
returns-clause-fault c = answer_fault c.args.family c.args.pseudo_header.now c.args.payload.now c.read.result c.read.ensures.value

pub returns-clause-few : goal.returns-clause-few
returns-clause-few c = answer_few c.args.family c.args.pseudo_header.now c.args.payload.now c.read.result c.read.ensures.value
