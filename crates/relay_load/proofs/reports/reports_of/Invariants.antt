use Rattle.std.{proofs.Common.{◌≡◌, ◌≤◌, All, length, map}, specs.List.{range_with_len}}
use Rattle.relay_load.specs.Reports.{report_at}
use Rattle.relay_load.proofs.reports.reports_of.Given as goal

abbrev pub invariant-loop-group_index : goal.invariant-loop-group_index
invariant-loop-group_index l = record {
  written : l.reports ≡ map (report_at l.fn.excludes) (range_with_len 0 l.group_index);
  short : All (λ report. length report ≤ 100) l.reports;
}
