use Rattle.std.proofs.Common.{Ok, true, refl, ap, ◌∙◌}
use Rattle.toml.specs.View.{table_view}
use Rattle.amt_config.{specs.{FileKey.{word_of}, Key.{text_key}, declared.fault.KeyFault.TheVariants.{Missing}}, proofs.Faults.{fails_missing, may_fail}}
use Rattle.amt_config.proofs.texts.required_text.Goals as goal

pub returns-in-Ok-None-clause-fault : goal.returns-in-Ok-None-clause-fault
returns-in-Ok-None-clause-fault c = λ form.
    let key = text_key (word_of c.args.key) true form in
    may_fail (table_view c.args.table.now) key Missing c.told.result (fails_missing key (table_view c.args.table.now) refl (c.text_at.ensures.none (c.in-Ok-None.is ∙ ap Ok c.in-Ok-None.field-0-is))) c.told.ensures

pub returns-in-Err-clause-fault : goal.returns-in-Err-clause-fault
returns-in-Err-clause-fault c = λ form. c.in-Err.ensures.fault true form
