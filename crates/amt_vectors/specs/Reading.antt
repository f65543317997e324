-- What the reader's own answers say.
use Rattle.std.specs.Prelude.{◌≡◌, ◌≢◌, ◌≤◌, ℕ, ◌+◌, List, ◌∷◌, ◌++◌, length, Option, Some, None, All}
use Rattle.amt_vectors.specs.{declared.{report.{Bad.{Bad}, SuiteReport.{SuiteReport}}, row.{Question.{Question, TheVariants.{Hmac, Sum, Decode, Code4, Code6, Ip}}, Row.{Row}}}, Answer.{IsAnswer}, Report.{IsBadRow, Passes}}

-- octets that a checksum or a decoding is asked of are no more than UDP carries
abbrev pub CanBeAsked : Question → Type 0
CanBeAsked (Hmac key message) = Unit {0}
CanBeAsked (Sum bytes) = length bytes ≤ 65535
CanBeAsked (Decode bytes) = length bytes ≤ 65535
CanBeAsked (Code4 code) = Unit {0}
CanBeAsked (Code6 code) = Unit {0}
CanBeAsked (Ip address) = Unit {0}

-- the row's question can be asked
abbrev pub CanAsk : Row → Type 0
CanAsk row = CanBeAsked row.question

-- another answer than the text that the row wants
pub record IsOther (row : Row) (have : List ℕ) : Type 0 where
  pub answers : IsAnswer row.question have
  pub differs : have ≢ row.want

-- as `IsFirstBad`, where so many rows have passed before these
pub record IsFirstBadAfter (count : ℕ) (rows : List Row) (passed : ℕ) (bad : Bad) : Type 0 where
  pub before : List Row
  pub row : Row
  pub after : List Row
  pub parts : rows ≡ before ++ row ∷ after
  pub pass : All Passes before
  pub counted : passed ≡ count + length before
  pub is_bad : IsBadRow (passed + 1) row bad

-- as `Reports` and `IsReportOf`, where so many rows have passed before these
abbrev pub ReportsAfter : ℕ → List Row → ℕ → Option Bad → Type 0
ReportsAfter count rows passed None = All Passes rows × (passed ≡ count + length rows)
ReportsAfter count rows passed (Some bad) = IsFirstBadAfter count rows passed bad

abbrev pub IsReportAfter : ℕ → List Row → SuiteReport → Type 0
IsReportAfter count rows report = ReportsAfter count rows report.passed report.bad
