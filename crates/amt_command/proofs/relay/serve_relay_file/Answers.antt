use Rattle.std.proofs.Common.{◌≡◌}
use Rattle.amt_command.{specs.declared.ending.Ending.TheVariants.{Fault}, proofs.Shown.{settings_told}}
use Rattle.amt_command.proofs.relay.serve_relay_file.Goals as goal

pub returns-in-Err-clause-fault : goal.returns-in-Err-clause-fault
returns-in-Err-clause-fault g c = λ line is.
    let same : c.ending_of_fault.result ≡ Fault line = cc is in
    settings_told c.in-Err.fault c.ending_of_fault.result c.ending_of_fault.ensures line same
