use Rattle.amt_vectors.proofs.BuiltIn.{no_fault}
use Rattle.amt_vectors.proofs.built_in.built_in_rows.Goals as goal

pub unreachable-requires : goal.unreachable-requires
unreachable-requires c =
    no_fault c.built_in_octets.result.now c.in-Err-Fault.field-0 c.in-Err-Fault.field-0-0 c.in-Err-Fault.field-0-1 c.built_in_octets.ensures.text c.in-Err-Fault.field-0-is
    c.in-Err-Fault.ensures.none
