use Rattle.std.{proofs.Common.{◌≡◌, ◌++◌, take, All}, specs.List.{flat_map}}
use Rattle.group_records.specs.Written.{FitsOctets, address_octets}
use Rattle.group_records.proofs.writing.append_sources.Given as goal

abbrev pub invariant-loop-source : goal.invariant-loop-source
invariant-loop-source l = record {
  fit : All FitsOctets (take l.source-index l.sources);
  written : l.octets.items ≡ l.fn.octets.items ++ flat_map address_octets (take l.source-index l.sources);
}
