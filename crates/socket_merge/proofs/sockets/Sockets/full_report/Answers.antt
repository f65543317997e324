use Rattle.std.{proofs.{Common.{◌≡◌, ℕ, ◌≤◌, true, max, List, sym, ap, subst, ◌∙◌, arith}, lemmas.Result.{IfOk-weaker}}, specs.{List.{All, flat_map}, Result.{IfOk}}}
use Rattle.amt_values.specs.{Group.{is_forwardable}}
use Rattle.source_filter.specs.declared.record.Record.{Record}
use Rattle.group_records.specs.{Written.{IsOfFamily, report_length}, declared.family.Family.{Family}}
use Rattle.socket_merge.specs.{FullReport.{family_by, full_report_of}, History.{AcceptedCall, Socket, moment_read}, Kept.{farewells_in, said_of, slots_of}, Refusal.{raw_report_length}, Sockets.{SocketsHold, SocketsValue}}
use Rattle.socket_merge.proofs.{Calls.{value_of, within_limits}, Reports.{full-forwarded, full-of_family, full-within_raw, full_report-is}, sockets.Sockets.full_report.Goals.{After-report}}
use Rattle.socket_merge.proofs.sockets.Sockets.full_report.Goals as goal

-- the records of the answer are the full report
says : (c : After-report) (history : List AcceptedCall) → SocketsHold (value_of c.self.inside.moment c.self.inside.named c.self.inside.farewells) history
    → IfOk c.report.result (λ records. records ≡ full_report_of (family_by c.args.v6) history (moment_read c.args.at.now history) c.args.keep_ms)
says c history holds =
    let read : c.later-moment.result ≡ moment_read c.args.at.now history = c.later-moment.ensures ∙ ap (λ (one : ℕ). max one c.args.at.now) holds.moment in
    let back = subst (λ (sockets : List Socket). slots_of sockets (farewells_in c.self.inside.farewells) ≡ c.self.inside.farewells) holds.sockets c.self.invariant.back in
    IfOk-weaker c.report.result (λ records. records ≡ flat_map (said_of c.family_by-family.result c.self.inside.named c.later-moment.result c.args.keep_ms) c.self.inside.farewells)
    (λ records. records ≡ full_report_of (family_by c.args.v6) history (moment_read c.args.at.now history) c.args.keep_ms)
    (λ records is. is
    ∙ ap (λ (of : Family). flat_map (said_of of c.self.inside.named c.later-moment.result c.args.keep_ms) c.self.inside.farewells) c.family_by-family.ensures
    ∙ ap (λ (sockets : List Socket). flat_map (said_of (family_by c.args.v6) sockets c.later-moment.result c.args.keep_ms) c.self.inside.farewells) holds.sockets
    ∙ full_report-is (family_by c.args.v6) history c.self.inside.farewells c.later-moment.result c.args.keep_ms back holds.farewells (omega (arith, read))
    ∙ ap (λ (at : ℕ). full_report_of (family_by c.args.v6) history at c.args.keep_ms) read)
    c.report.ensures

-- what holds of the full report of each history holds of the records
each : (c : After-report) (P : List Record → Type 0) (history : List AcceptedCall) → SocketsHold (value_of c.self.inside.moment c.self.inside.named c.self.inside.farewells) history
    → P (full_report_of (family_by c.args.v6) history (moment_read c.args.at.now history) c.args.keep_ms) → IfOk c.report.result P
each c P history holds is =
    IfOk-weaker c.report.result (λ records. records ≡ full_report_of (family_by c.args.v6) history (moment_read c.args.at.now history) c.args.keep_ms) P (λ records same. subst P (sym same) is) (says c history holds)

pub returns-clause-records : goal.returns-clause-records
returns-clause-records c = λ (history : List AcceptedCall) holds. says c history (subst (λ (value : SocketsValue). SocketsHold value history) (sym c.self.view_is) holds)

pub returns-clause-forwarded : goal.returns-clause-forwarded
returns-clause-forwarded c =
    let sound = c.self.invariant in
    each c (All (λ one. is_forwardable one.group ≡ true)) sound.history sound.holds (full-forwarded (family_by c.args.v6) sound.history (moment_read c.args.at.now sound.history) c.args.keep_ms sound.lawful)

pub returns-clause-family : goal.returns-clause-family
returns-clause-family c =
    let sound = c.self.invariant in
    each c (All (IsOfFamily (family_by c.args.v6))) sound.history sound.holds (full-of_family (family_by c.args.v6) sound.history (moment_read c.args.at.now sound.history) c.args.keep_ms sound.lawful)

pub returns-clause-short : goal.returns-clause-short
returns-clause-short c =
    λ (history : List AcceptedCall) holds.
    each c (λ records. report_length (family_by c.args.v6) records ≤ raw_report_length (family_by c.args.v6) history) history (subst (λ (value : SocketsValue). SocketsHold value history) (sym c.self.view_is) holds)
    (full-within_raw (family_by c.args.v6) history (moment_read c.args.at.now history) c.args.keep_ms (omega arith))

pub returns-clause-fits : goal.returns-clause-fits
returns-clause-fits c =
    let sound = c.self.invariant in
    each c (λ records. report_length (family_by c.args.v6) records ≤ 1400) sound.history sound.holds
    (omega (arith, full-within_raw (family_by c.args.v6) sound.history (moment_read c.args.at.now sound.history) c.args.keep_ms (omega arith), sound.lawful.limits.octets (family_by c.args.v6)))

pub returns-clause-raw_fits : goal.returns-clause-raw_fits
returns-clause-raw_fits c =
    λ (history : List AcceptedCall) holds.
    (within_limits c.self.inside.moment c.self.inside.named c.self.inside.farewells c.self.invariant history (subst (λ (value : SocketsValue). SocketsHold value history) (sym c.self.view_is) holds)).octets (family_by c.args.v6)
