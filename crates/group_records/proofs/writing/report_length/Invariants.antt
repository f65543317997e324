use Rattle.std.{proofs.Common.{◌≡◌, ◌+◌, take}, specs.List.{sum_by}}
use Rattle.group_records.proofs.WrittenReport.{written_length}
use Rattle.group_records.proofs.writing.report_length.Given as goal

abbrev pub invariant-loop-group_record : goal.invariant-loop-group_record
invariant-loop-group_record l = l.octets ≡ 8 + sum_by (written_length l.fn.family) (take l.group_record-index l.records)
