use Rattle.std.proofs.Common.{◌≡◌, drop, Some, None, rules}
use Rattle.amt_values.specs.Conditions.{first_holding}
use Rattle.group_records.{specs.Reading.{record_faults, record_length}, proofs.{LoopSteps.{asks_here, asks_later, fault_here, fault_step, known_step, reading-err, reading-ok}, RecordOctets.{whole_record}}}
use Rattle.group_records.proofs.report.read_records.Goals as goal

pub returns-in-Some-clause-value : goal.returns-in-Some-clause-value
returns-in-Some-clause-value c =
    let left = c.loop-index.left.now in
    let here : first_holding (record_faults c.args.family c.loop-index.index left) ≡ Some c.in-Some.fault = search rules in
    reading-err c.args.family c.args.count c.args.octets.now c.in-Some.fault
    (fault_here c.args.family c.args.count c.loop-index.index left c.in-Some.fault _ c.loop-index-test.true here c.loop-index.invariant.fault)

pub loop-index-preserved : goal.loop-index-preserved
loop-index-preserved c =
    let left = c.loop-index.left.now in
    let rest = c.after_record-left.result.now in
    let none : first_holding (record_faults c.args.family c.loop-index.index left) ≡ None = search rules in
    let after : rest ≡ drop (record_length c.args.family left) left = c.after_record-left.ensures in
    let known = known_step c.args.family c.args.count c.loop-index.index c.loop-index.records _ left rest c.loop-index-test.true after c.loop-index.invariant.known in
    let whole = whole_record c.args.family c.loop-index.index left none in
    record {
      asks = λ later. c.loop-index.invariant.asks (asks_later c.args.family c.args.count c.loop-index.index left rest c.loop-index-test.true whole after later);
      fault = fault_step c.args.family c.args.count c.loop-index.index left rest _ c.loop-index-test.true none after c.loop-index.invariant.fault;
      known = rw c.in-Ok.ensures.kept known;
    }

pub returns-clause-value : goal.returns-clause-value
returns-clause-value c =
    reading-ok c.args.family c.args.count c.loop-index.index c.loop-index.records c.loop-index.left.now c.args.octets.now c.loop-index-test.false c.loop-index.invariant.fault c.loop-index.invariant.known

pub returns-in_default-append_record-clause-memory : goal.returns-in_default-append_record-clause-memory
returns-in_default-append_record-clause-memory c same =
    let left = c.loop-index.left.now in
    let none : first_holding (record_faults c.args.family c.loop-index.index left) ≡ None = search rules in
    let whole = whole_record c.args.family c.loop-index.index left none in
    c.loop-index.invariant.asks (asks_here c.args.family c.args.count c.loop-index.index left c.loop-index-test.true whole c.in_default-append_record.ensures.asks)
