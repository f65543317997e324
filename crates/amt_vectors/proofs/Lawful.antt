-- Rows are a lawful kind of script.
use Rattle.std.proofs.Common.{ℕ, List, sym, subst, ◌∙◌}
use Rattle.script_lines.specs.{declared.reason.Reason.{Reason}, Kind.{IsLawfulKind}}
use Rattle.script_lines.specs.declared.reason.Reason.TheVariants as reasons
use Rattle.amt_vectors.{specs.{declared.{kind.RowKind.{RowKind}, row.Row.{Row}}, Fault.{FailsAs, FailsAsRow, FailsInKind}, Kind.{vector_kind}, Row.{word_of}, Says.{SaysRow}}, proofs.{Fits.{IsFit, kind_of, row_is_fit}, Rows.{same_kind, same_values}, Unique.{SaysRow-unique}}}

-- a line of which no field fails fails as no kind
fit_is_sound : (kind : RowKind) (line : List (List ℕ)) (reason : Reason) → IsFit kind line → FailsInKind line reason → ⊥
fit_is_sound kind line reason fit fails =
    let both = sym fails.2 ∙ fit.parts in
    let kind_is = same_kind fails.0 kind fails.1 fit.values both in
    let values_are = same_values (word_of fails.0) (word_of kind) fails.1 fit.values both in
    fit.fits reason
    (subst (λ (values : List (List ℕ)). FailsAs kind values reason) values_are
    (subst (λ (other : RowKind). FailsAs other fails.1 reason) kind_is fails.3))

no_statement : (row : Row) (line : List (List ℕ)) (reason : Reason) → SaysRow row line → FailsAsRow line reason → ⊥
no_statement row line reasons.Word says fails = let fit = row_is_fit row.question row.want line says in fails (kind_of row.question) fit.values fit.parts
no_statement row line reason says fails = fit_is_sound (kind_of row.question) line reason (row_is_fit row.question row.want line says) fails

pub vector_kind_lawful : IsLawfulKind vector_kind
vector_kind_lawful = record {
  one_statement = λ past one other line h k. SaysRow-unique one other line h k;
  no_statement = λ past row line reason h k. no_statement row line reason h k;
  one_script = λ said one other h k. h ∙ sym k;
  no_script = λ said rows reason h k. k;
}
