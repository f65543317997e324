use Rattle.std.proofs.Common.{◌≡◌, take}
use Rattle.source_filter.proofs.records.copy_records.Given as goal

abbrev pub invariant-loop-group_record : goal.invariant-loop-group_record
invariant-loop-group_record l = l.copies ≡ take l.group_record-index l.group_record-items
