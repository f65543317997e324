use Rattle.std.proofs.{Common.{◌≡◌, ◌∙◌, List, Option, Ok, true, sym, ap, arith}, lemmas.Result.{IfOk-weaker}}
use Rattle.source_filter.specs.declared.record.Record.{Record}
use Rattle.endpoint_membership.specs.{Log.{latest}, Table.{in_force_of, limit_passed}, declared.limits.LimitFault.{LimitFault}}
use Rattle.relay_machine.{specs.Updates.{report_in}, proofs.{Answering.{answered-read}, Reports.{item_count-forwardable}}}
use Rattle.relay_machine.proofs.update.take_update.Goals as goal

pub accept-requires-clause-items : goal.accept-requires-clause-items
accept-requires-clause-items c =
    let few = c.in-Ok.ensures.few in
    rw c.forwardable_records.ensures (omega (arith, item_count-forwardable c.in-Ok.records))

pub returns-clause-answers : goal.returns-clause-answers
returns-clause-answers c terms log holds =
    let good : c.args.good ≡ true = cc in
    let read : report_in c.args.inner.now ≡ Ok c.in-Ok.records = ap report_in (sym c.as_slice.ensures) ∙ c.in-Ok.ensures.value in
    let passed : List Record → Option LimitFault = λ records. limit_passed (in_force_of terms c.args.table.now) log c.args.source records (latest log) in
    rw good (IfOk-weaker c.accept.result _ _
    (λ step answered. answered-read terms _ _ log (report_in c.args.inner.now) c.in-Ok.records c.forwardable_records.result passed c.args.source (latest log) step read c.forwardable_records.ensures answered)
    (c.accept.ensures.answers terms log holds))
