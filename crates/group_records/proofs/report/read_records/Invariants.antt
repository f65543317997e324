use Rattle.std.proofs.Common.{◌≡◌, true, ◌-◌, ◌++◌}
use Rattle.amt_values.specs.Conditions.{first_holding}
use Rattle.group_records.specs.{CarriedRecord.{known_records}, Reading.{carried_records_at, all_record_faults, asks_memory}}
use Rattle.group_records.proofs.report.read_records.Given as goal

abbrev pub invariant-loop-index : goal.invariant-loop-index
invariant-loop-index l = record {
  fault : first_holding (all_record_faults l.family l.index (l.count - l.index) l.left) ≡ first_holding (all_record_faults l.family 0 l.count l.octets);
  asks : asks_memory l.family (l.count - l.index) l.left ≡ true → asks_memory l.family l.count l.octets ≡ true;
  known : l.records ++ known_records l.family (carried_records_at l.family (l.count - l.index) l.left)
      ≡ known_records l.family (carried_records_at l.family l.count l.octets);
}
