use Rattle.std.proofs.Common.{◌<◌, Some, sym, ap, ◌∙◌, arith}
use Rattle.group_records.{specs.Code.{code_with}, proofs.Codes.{lower_code, same_code, next_exponent}}
use Rattle.group_records.proofs.code.value_code.Goals as goal

pub returns-then-value-code_count-clause-only : goal.returns-then-value-code_count-clause-only
returns-then-value-code_count-clause-only c code small stands =
    ap Some (lower_code c.args.family c.args.value code (omega (arith, c.code_count.ensures, c.if-value-code_count.true)) small stands)

pub returns-then-code_value-value-clause-only : goal.returns-then-code_value-value-clause-only
returns-then-code_value-value-clause-only c code small stands =
    let found = sym c.code_value.ensures ∙ c.if-code_value-value.true in
    ap Some (same_code c.args.family c.code_with-code.result code c.code_with-code.ensures.of_family small (found ∙ sym stands))

pub loop-exponent-preserved : goal.loop-exponent-preserved
loop-exponent-preserved c code small stands =
    let tried = c.code_with-code.ensures.value ∙ ap (code_with c.args.family c.loop-exponent.exponent) c.mantissa_of.ensures in
    let small_exponent : c.loop-exponent.exponent < 8 = omega (arith, c.loop-exponent-test.true) in
    next_exponent c.args.family c.loop-exponent.exponent c.args.value c.code_with-code.result code small_exponent tried
    (λ same. c.if-code_value-value.false (c.code_value.ensures ∙ same)) stands (c.loop-exponent.invariant code small stands)
