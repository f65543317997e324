use Rattle.std.proofs.Common.{◌≡◌, Err, rules}
use Rattle.amt_command.{specs.{Running.{gateway_reporting}, declared.ending.Ending.TheVariants.{Fault}}, proofs.Shown.{settings_told, shown}}
use Rattle.amt_command.proofs.gateway.serve_gateway_file.Goals as goal

pub returns-in-Err-clause-answered : goal.returns-in-Err-clause-answered
returns-in-Err-clause-answered g c =
    (Err c.in-Err.fault, search rules, shown gateway_reporting g.O.Sink.written c.args.out.now c.in-Err.fault c.ending_of_fault.result c.ending_of_fault.ensures)

pub returns-in-Err-clause-fault : goal.returns-in-Err-clause-fault
returns-in-Err-clause-fault g c = λ line is.
    let same : c.ending_of_fault.result ≡ Fault line = cc is in
    settings_told c.in-Err.fault c.ending_of_fault.result c.ending_of_fault.ensures line same
