use Rattle.std.proofs.Common.{ℕ, Some, sym, ap, ◌∙◌}
use Rattle.amt_values.{specs.Text.{v4_text}, proofs.Dotted.{v4_found, v4_only, v4_none}}
use Rattle.amt_values.proofs.text.parse_v4.Goals as goal

pub returns-in-Ok-clause-found : goal.returns-in-Ok-clause-found
returns-in-Ok-clause-found c =
    (c.to_bits.type_inv, v4_found c.args.text.now c.in-Ok.address c.in-Ok.ensures ∙ ap v4_text (sym c.to_bits.ensures))

pub returns-in-Ok-clause-only : goal.returns-in-Ok-clause-only
returns-in-Ok-clause-only c = λ number names.
    ap (λ (n : ℕ). Some n) (c.to_bits.ensures ∙ v4_only c.args.text.now c.in-Ok.address number c.in-Ok.ensures names.0 names.1)

pub returns-in-Err-clause-only : goal.returns-in-Err-clause-only
returns-in-Err-clause-only c = λ number names. absurd (v4_none c.args.text.now number c.in-Err.ensures names.1)
