-- A fault of an inner call that is handed on.
use Rattle.std.proofs.Common.{Err, IsErrOf}
use Rattle.serving_commands.specs.declared.opening.live.OpenFault.{OpenFault}

pub same_fault : {S T : Type 0} (one fault : OpenFault) → IsErrOf {T = S} (Err one) fault → IsErrOf {T = T} (Err one) fault
same_fault one fault is = cc
