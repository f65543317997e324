use Rattle.std.proofs.Common.{List, ℕ, ◌∙◌, ap, arith}
use Rattle.byteorder.specs.Endian.{big_number}
use Rattle.amt_values.proofs.NetworkOrder.{big_from-bytes_high_first}
use Rattle.amt_values.proofs.octets.octets_of_address.Goals as goal

pub returns-clause-number : goal.returns-clause-number
returns-clause-number c =
    ap (λ (octets : List ℕ). big_number 16 octets) c.to_be_bytes.ensures ∙ big_from-bytes_high_first 16 c.args.address (omega arith)
