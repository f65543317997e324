use Rattle.std.proofs.Common.{arith}
use Rattle.group_records.proofs.Codes.{masked-code_value}
use Rattle.group_records.proofs.code.code_value.Goals as goal

pub returns : goal.returns
returns c =
    rw (c.mantissa_of.ensures, c.from-code.ensures)
    (masked-code_value c.args.family c.mantissa_bits-bits.result c.args.code c.mantissa_bits-bits.ensures.value
    (omega (arith, c.code_count.ensures, c.from-code.ensures, c.if-code-code_count.false)))
