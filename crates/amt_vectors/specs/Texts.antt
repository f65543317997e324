-- A report as text.
use Rattle.std.specs.Prelude.{ℕ, List, [], ◌∷◌, ◌++◌, Option, codes, decimal, option_map}
use Rattle.amt_vectors.specs.declared.report.{Bad.{Bad}, SuiteReport.{SuiteReport}}

-- `passed N`, and a line feed
abbrev pub suite_text : SuiteReport → List ℕ
suite_text report = codes "passed " ++ (decimal report.passed ++ (10 ∷ []))

-- `vector K want TEXT have TEXT`
abbrev pub bad_text : Bad → List ℕ
bad_text bad =
    codes "vector " ++ (decimal bad.number ++ (codes " want " ++ (bad.want ++ (codes " have " ++ bad.have))))

-- that of the row that doesn't pass, if there is one
abbrev pub difference_of : SuiteReport → Option (List ℕ)
difference_of report = option_map bad_text report.bad
