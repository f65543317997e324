use Rattle.std.proofs.Common.{◌≡◌, ℕ, List, Ok, Some, false, refl, rules, subst, ap, ◌∙◌}
use Rattle.toml.specs.{Data.{as_str}, View.{table_view}}
use Rattle.amt_config.{specs.{FileKey.{word_of}, Key.{IsUnfit, read_at, text_key}}, proofs.Faults.{right_absent, text_right, text_unfit}}
use Rattle.amt_config.proofs.texts.optional.Goals as goal

pub returns-in-Err-clause-fault : goal.returns-in-Err-clause-fault
returns-in-Err-clause-fault g c = c.in-Err.ensures.fault false (g.F.TextForm.form c.args.form.now)

pub returns-in-Ok-None-clause-right : goal.returns-in-Ok-None-clause-right
returns-in-Ok-None-clause-right g c =
    right_absent (text_key (word_of c.args.key) false (g.F.TextForm.form c.args.form.now)) (table_view c.args.table.now) refl
    (c.text_at.ensures.none (c.in-Ok-None.is ∙ ap Ok c.in-Ok-None.field-0-is))

pub returns-in-Ok-clause-right : goal.returns-in-Ok-clause-right
returns-in-Ok-clause-right g c =
    let form = g.F.TextForm.form c.args.form.now in
    let there : read_at as_str (word_of c.args.key) (table_view c.args.table.now) ≡ Some c.in-Ok-Some.text.now = search rules in
    text_right (word_of c.args.key) false form (table_view c.args.table.now) c.in-Ok-Some.text.now there
    (subst (λ (text : List ℕ). IsUnfit form text → ⊥) c.as_bytes.ensures.value c.in-Ok.ensures.fits)

pub returns-in-Err-read-clause-fault : goal.returns-in-Err-read-clause-fault
returns-in-Err-read-clause-fault g c =
    let form = g.F.TextForm.form c.args.form.now in
    let there : read_at as_str (word_of c.args.key) (table_view c.args.table.now) ≡ Some c.in-Ok-Some.text.now = search rules in
    text_unfit (word_of c.args.key) false form (table_view c.args.table.now) c.in-Ok-Some.text.now there c.in-Err-read.fault c.told.result
    (subst (IsUnfit form) c.as_bytes.ensures.value c.in-Err-read.ensures.unfit.0) c.in-Err-read.ensures.unfit.1 c.told.ensures
