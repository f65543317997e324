use Rattle.std.proofs.Common.{ℕ, List, true, subst}
use Rattle.toml.specs.View.{table_view}
use Rattle.amt_config.{specs.{FileKey.{word_of}, Key.{IsUnfit}}, proofs.Faults.{text_right, text_unfit}}
use Rattle.amt_config.proofs.texts.required.Goals as goal

pub returns-in-Err-clause-fault : goal.returns-in-Err-clause-fault
returns-in-Err-clause-fault g c = c.in-Err.ensures.fault (g.F.TextForm.form c.args.form.now)

pub returns-in-Ok-read-clause-right : goal.returns-in-Ok-read-clause-right
returns-in-Ok-read-clause-right g c =
    let form = g.F.TextForm.form c.args.form.now in
    text_right (word_of c.args.key) true form (table_view c.args.table.now) c.in-Ok.text.now c.in-Ok.ensures.text
    (subst (λ (text : List ℕ). IsUnfit form text → ⊥) c.as_bytes.ensures.value c.in-Ok-read.ensures.fits)

pub returns-in-Err-read-clause-fault : goal.returns-in-Err-read-clause-fault
returns-in-Err-read-clause-fault g c =
    let form = g.F.TextForm.form c.args.form.now in
    text_unfit (word_of c.args.key) true form (table_view c.args.table.now) c.in-Ok.text.now c.in-Ok.ensures.text c.in-Err-read.fault c.told.result
    (subst (IsUnfit form) c.as_bytes.ensures.value c.in-Err-read.ensures.unfit.0) c.in-Err-read.ensures.unfit.1 c.told.ensures
