use Rattle.std.proofs.Common.{◌≤◌, length}
use Rattle.amt_dns.specs.Answer.{AreRecords}
use Rattle.amt_dns.proofs.answer.read_records.Given as goal

abbrev pub invariant-loop-number : goal.invariant-loop-number
invariant-loop-number l = record {
  records : AreRecords l.bytes l.start l.number l.found l.at;
  within : l.at ≤ length l.bytes;
  few : length l.found ≤ l.number;
}
