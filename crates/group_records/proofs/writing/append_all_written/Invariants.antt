use Rattle.std.{proofs.Common.{◌≡◌, ◌++◌, take, All}, specs.List.{flat_map}}
use Rattle.group_records.specs.Written.{HasFittingAddresses, written_record}
use Rattle.group_records.proofs.writing.append_all_written.Given as goal

abbrev pub invariant-loop-group_record : goal.invariant-loop-group_record
invariant-loop-group_record l = record {
  fit : All HasFittingAddresses (take l.group_record-index l.records);
  written : l.octets.items ≡ l.fn.octets.items ++ flat_map written_record (take l.group_record-index l.records);
}
