-- What a run over rows reports.
use Rattle.std.specs.Prelude.{◌≡◌, ◌≢◌, ℕ, ◌+◌, List, ◌∷◌, ◌++◌, length, Option, Some, None, All}
use Rattle.script_lines.specs.Script.{Spells}
use Rattle.amt_vectors.specs.{declared.{report.{Bad.{Bad}, SuiteReport.{SuiteReport}}, row.Row.{Row}}, Answer.{IsAnswer}, BuiltIn.{built_in_text}, Kind.{vector_kind}}

-- the text that the row wants is the answer
abbrev pub Passes : Row → Type 0
Passes row = IsAnswer row.question row.want

-- the row of this number has another answer than the text that it wants, and both are reported
pub record IsBadRow (number : ℕ) (row : Row) (bad : Bad) : Type 0 where
  pub number_is : bad.number ≡ number
  pub want_is : bad.want ≡ row.want
  pub have_is : IsAnswer row.question bad.have
  pub differs : bad.have ≢ bad.want

-- the first row that doesn't pass, counted from 1, and how many are before it
pub record IsFirstBad (rows : List Row) (passed : ℕ) (bad : Bad) : Type 0 where
  pub before : List Row
  pub row : Row
  pub after : List Row
  pub parts : rows ≡ before ++ row ∷ after
  pub pass : All Passes before
  pub counted : passed ≡ length before
  pub is_bad : IsBadRow (length before + 1) row bad

-- so many of the rows pass: all, or those before the first that doesn't
abbrev pub Reports : List Row → ℕ → Option Bad → Type 0
Reports rows passed None = All Passes rows × (passed ≡ length rows)
Reports rows passed (Some bad) = IsFirstBad rows passed bad

-- the report of these rows
abbrev pub IsReportOf : List Row → SuiteReport → Type 0
IsReportOf rows report = Reports rows report.passed report.bad

-- the report of these rows after the built-in ones
pub record IsSuiteReport (rows : List Row) (report : SuiteReport) : Type 0 where
  pub built_in : List Row
  pub spells_built_in : Spells vector_kind built_in built_in_text
  pub report_of : IsReportOf (built_in ++ rows) report

-- that of the rows that these octets spell
pub record IsVectorsReport (report : SuiteReport) (bytes : List ℕ) : Type 0 where
  pub rows : List Row
  pub spells : Spells vector_kind rows bytes
  pub suite : IsSuiteReport rows report
