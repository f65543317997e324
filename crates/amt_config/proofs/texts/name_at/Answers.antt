use Rattle.std.proofs.Common.{true, refl, sym, subst}
use Rattle.script_lines.specs.Form.{IsName, a_name}
use Rattle.toml.specs.View.{table_view}
use Rattle.amt_config.{specs.{FileKey.{word_of}, declared.fault.KeyFault.TheVariants.{Range}}, proofs.Faults.{text_right, text_unfit}}
use Rattle.amt_config.proofs.texts.name_at.Goals as goal

pub returns-in-Err-clause-fault : goal.returns-in-Err-clause-fault
returns-in-Err-clause-fault c = c.in-Err.ensures.fault a_name

pub returns-then-not-is_name-clause-fault : goal.returns-then-not-is_name-clause-fault
returns-then-not-is_name-clause-fault c =
    text_unfit (word_of c.args.key) true a_name (table_view c.args.table.now) c.in-Ok.text.now c.in-Ok.ensures.text Range c.told.result
    (λ named.
    let told = c.is_name.ensures.1 (subst IsName (sym c.as_bytes.ensures.value) named) in
    let not_told = c.if-not-is_name.true in cc (told, not_told)) refl c.told.ensures

pub returns-clause-right : goal.returns-clause-right
returns-clause-right c =
    text_right (word_of c.args.key) true a_name (table_view c.args.table.now) c.in-Ok.text.now c.in-Ok.ensures.text
    (λ unfit. unfit (subst IsName c.as_bytes.ensures.value (c.is_name.ensures.0 c.if-not-is_name.false)))
