-- The datagrams that the Updates of a load carry, each written once. No public contract says these words.
use Rattle.std.specs.{Prelude.{◌≡◌, ℕ, ◌+◌, ◌≤◌, Bool, true, false, List, map, length, All}, List.{range_with_len}}
use Rattle.relay_load.specs.{declared.reports.Reports.{Reports}, Updates.{group_base, load_report, record_with}}

-- the group of this index, from 0 on
abbrev pub group_at : ℕ → ℕ
group_at index = group_base + (1 + index)

-- the datagram with a record of one kind on the group of this index
abbrev pub report_at : Bool → ℕ → List ℕ
report_at excludes index = load_report (record_with excludes (group_at index))

-- one for each of the 16 groups, in order
unfoldable pub reports_of : Bool → List (List ℕ)
reports_of excludes = map (report_at excludes) (range_with_len 0 16)

-- these are they, and each is short
pub record AreReportsOf (excludes : Bool) (reports : List (List ℕ)) : Type 0 where
  pub written : reports ≡ reports_of excludes
  pub short : All (λ report. length report ≤ 100) reports

-- those of both kinds
pub record AreReports (reports : Reports) : Type 0 where
  pub excluding : AreReportsOf true reports.excluding
  pub including : AreReportsOf false reports.including
