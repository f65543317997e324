use Rattle.std.proofs.Common.{◌≡◌, ◌++◌, take, flat_map}
use Rattle.amt_dns.specs.Texts.{record_line}
use Rattle.amt_dns.proofs.text.append_records.Given as goal

abbrev pub invariant-loop-one : goal.invariant-loop-one
invariant-loop-one l = l.text ≡ l.initial.text ++ flat_map record_line (take l.one-index l.records)
