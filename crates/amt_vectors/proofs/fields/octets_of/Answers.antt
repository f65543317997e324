use Rattle.std.proofs.Common.{Err, ap, inr, refl}
use Rattle.script_lines.specs.declared.values.OctetsError.{OctetsError}
use Rattle.amt_vectors.proofs.fields.octets_of.Goals as goal

pub returns-in-Err-NotHex-clause-bad : goal.returns-in-Err-NotHex-clause-bad
returns-in-Err-NotHex-clause-bad c = inr (refl, c.in-Err-NotHex.ensures.none (ap (λ (e : OctetsError). Err e) c.in-Err-NotHex.field-0-is))
