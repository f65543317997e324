use Rattle.std.proofs.{Common.{◌≡◌, ◌≤◌, ℕ, List, length, ap, ◌∙◌, arith}, lemmas.Result.{IfOk-weaker}}
use Rattle.inner_datagrams.specs.Written.{written_inner4, written_inner6}
use Rattle.igmp_records.specs.Report.{written_report4}
use Rattle.mld_records.specs.Report.{written_report6}
use Rattle.gateway_machine.{specs.Reports.{igmp_routers, mld_routers, report_datagram}, proofs.ReportSizes.{length-inner6}}
use Rattle.gateway_machine.proofs.report.report_datagram.Goals as goal

pub returns-in_ok-report-in-V4-clause-written : goal.returns-in_ok-report-in-V4-clause-written
unfolding report_datagram
returns-in_ok-report-in-V4-clause-written c =
    let carried : c.as_slice.result.now ≡ written_report4 c.args.records.now = c.as_slice.ensures ∙ c.in_ok-report-in-V4.ensures.written in
    rw c.in-V4.is (IfOk-weaker c.write_inner4.result _ _
    (λ bytes written. written ∙ ap (λ (payload : List ℕ). written_inner4 c.in-V4.source igmp_routers payload) carried) c.write_inner4.ensures.written)

pub returns-in_ok-report-in-V6-clause-written : goal.returns-in_ok-report-in-V6-clause-written
unfolding report_datagram
returns-in_ok-report-in-V6-clause-written c =
    let carried : c.as_slice-in-V6.result.now ≡ written_report6 c.in-V6.source mld_routers c.args.records.now = c.as_slice-in-V6.ensures ∙ c.in_ok-report-in-V6.ensures.written in
    rw c.in-V6.is (IfOk-weaker c.write_inner6.result _ _
    (λ bytes written. written ∙ ap (λ (payload : List ℕ). written_inner6 c.in-V6.source mld_routers payload) carried) c.write_inner6.ensures.written)

pub returns-in_ok-report-in-V6-clause-short : goal.returns-in_ok-report-in-V6-clause-short
returns-in_ok-report-in-V6-clause-short c =
    let most = rw c.in-V6.is at c.requires.most in
    let size : length c.as_slice-in-V6.result.now ≤ 1400 = rw (ap (λ (octets : List ℕ). length octets) c.as_slice-in-V6.ensures ∙ c.in_ok-report-in-V6.ensures.length) most in
    IfOk-weaker c.write_inner6.result _ _
    (λ bytes written. rw written (let all = length-inner6 c.in-V6.source mld_routers c.as_slice-in-V6.result.now in omega (arith, all, size))) c.write_inner6.ensures.written
