use Rattle.std.proofs.{Common.{◌≡◌, ℕ, sym, subst, ap, ◌∙◌, Ok}, lemmas.Fmt.{parse-decimal}}
use Rattle.amt_values.{specs.Numeral.{IsNumeral}, proofs.Numerals.{IsUtf8-from_numeral, parsed_number, parsed_too_large, no_number}}
use Rattle.amt_values.proofs.numeral.parse_numeral.Goals as goal

pub returns-then-not-is_numeral-clause-only : goal.returns-then-not-is_numeral-clause-only
returns-then-not-is_numeral-clause-only c = λ number small same.
    no_number c.args.text.now (λ numeral. let yes = c.is_numeral.ensures.1 numeral in cc) number small same

pub returns-in_default-clause-not_decimal : goal.returns-in_default-clause-not_decimal
returns-in_default-clause-not_decimal c = λ _ numeral.
    c.in_default.ensures.cases.0 (IsUtf8-from_numeral c.args.text.now numeral)

pub returns-in_default-clause-only : goal.returns-in_default-clause-only
returns-in_default-clause-only c = λ number small same.
    absurd (c.in_default.ensures.cases.0 (IsUtf8-from_numeral c.args.text.now (c.is_numeral.ensures.0 c.if-not-is_numeral.false)))

pub returns-in-Ok-parse-clause-found : goal.returns-in-Ok-parse-clause-found
returns-in-Ok-parse-clause-found c =
    let numeral = subst IsNumeral (sym c.in-Ok.ensures.cases.0) (c.is_numeral.ensures.0 c.if-not-is_numeral.false) in
    sym c.in-Ok.ensures.cases.0 ∙ parsed_number c.in-Ok.digits.now c.parse.result c.in-Ok-parse.number numeral c.parse.ensures.value.0 c.in-Ok-parse.is

pub returns-in-Ok-parse-clause-only : goal.returns-in-Ok-parse-clause-only
returns-in-Ok-parse-clause-only c = λ number small same.
    let read = parse-decimal 64 number c.in-Ok.digits.now c.parse.result small small (c.in-Ok.ensures.cases.0 ∙ same) c.parse.ensures.value.0 in
    let same_number : c.in-Ok-parse.number ≡ number = cc (read, c.in-Ok-parse.is) in
    ap (λ (n : ℕ). Ok n) same_number

pub returns-in-Err-clause-only : goal.returns-in-Err-clause-only
returns-in-Err-clause-only c = λ number small same.
    let read = parse-decimal 64 number c.in-Ok.digits.now c.parse.result small small (c.in-Ok.ensures.cases.0 ∙ same) c.parse.ensures.value.0 in
    cc (read, c.in-Err.is)

pub returns-in-Err-clause-too_large : goal.returns-in-Err-clause-too_large
returns-in-Err-clause-too_large c = λ _.
    let numeral = c.is_numeral.ensures.0 c.if-not-is_numeral.false in
    let same = c.in-Ok.ensures.cases.0 in
    (numeral, parsed_too_large c.args.text.now c.parse.result c.in-Err.field-0 numeral (rw same at c.parse.ensures.value.0) c.in-Err.is)
