use Rattle.std.{proofs.{Common.{◌≡◌, ◌≤◌, true, List, sym, ap, subst, ◌∙◌}, lemmas.Result.{IfOk-weaker}}, specs.{List.{All}, Result.{IfOk}}}
use Rattle.amt_values.specs.Group.{is_forwardable}
use Rattle.source_filter.specs.declared.record.Record.{Record}
use Rattle.group_records.specs.{Written.{IsOfFamily, report_length}, declared.family.Family.{Family}}
use Rattle.socket_merge.{specs.{Changes.{IsOneCallAfter, changes_between}, FullReport.{family_by}, History.{Socket, open_sockets}, Sockets.{SocketsValue}}, proofs.{Changed.{changes-forwarded, changes-of_family}, ShortChanges.{short-changes}, sockets.Sockets.changes_since.Goals.{After-changes_between}}}
use Rattle.socket_merge.proofs.sockets.Sockets.changes_since.Goals as goal

-- the records of the answer
abbrev pub Says : After-changes_between → List Record → Type 0
Says c records = records ≡ changes_between (family_by c.args.v6) c.before-2.inside.named c.self.inside.named

says : (c : After-changes_between) → IfOk c.changes_between.result (Says c)
says c =
    subst (λ (of : Family). IfOk c.changes_between.result (λ records. records ≡ changes_between of c.before-2.inside.named c.self.inside.named)) c.family_by-family.ensures c.changes_between.ensures

pub returns-clause-records : goal.returns-clause-records
returns-clause-records c =
    let of = family_by c.args.v6 in
    subst (λ (old : List Socket). IfOk c.changes_between.result (λ records. records ≡ changes_between of old c.args.self.now.sockets)) (ap (λ (value : SocketsValue). value.sockets) c.before-2.view_is)
    (subst (λ (new : List Socket). IfOk c.changes_between.result (λ records. records ≡ changes_between of c.before-2.inside.named new)) (ap (λ (value : SocketsValue). value.sockets) c.self.view_is) (says c))

-- what holds of the changes between two lawful histories holds of the records
each : (c : After-changes_between) (P : List Record → Type 0) → P (changes_between (family_by c.args.v6) (open_sockets c.before-2.invariant.history) (open_sockets c.self.invariant.history)) → IfOk c.changes_between.result P
each c P is =
    let of = family_by c.args.v6 in
    let old = c.before-2.invariant.holds.sockets in
    let new = c.self.invariant.holds.sockets in
    IfOk-weaker c.changes_between.result (Says c) P
    (λ records same. subst P (sym (same ∙ ap (λ (sockets : List Socket). changes_between of sockets c.self.inside.named) old ∙ ap (changes_between of (open_sockets c.before-2.invariant.history)) new)) is) (says c)

pub returns-clause-forwarded : goal.returns-clause-forwarded
returns-clause-forwarded c =
    each c (All (λ one. is_forwardable one.group ≡ true))
    (changes-forwarded (family_by c.args.v6) c.before-2.invariant.history c.self.invariant.history c.before-2.invariant.lawful c.self.invariant.lawful)

pub returns-clause-family : goal.returns-clause-family
returns-clause-family c =
    each c (All (IsOfFamily (family_by c.args.v6)))
    (changes-of_family (family_by c.args.v6) c.before-2.invariant.history c.self.invariant.history c.before-2.invariant.lawful c.self.invariant.lawful)

pub returns-clause-fits : goal.returns-clause-fits
returns-clause-fits c =
    λ (is : IsOneCallAfter c.args.before.now.sockets c.args.self.now.sockets).
    let old = sym (ap (λ (value : SocketsValue). value.sockets) c.before-2.view_is) ∙ c.before-2.invariant.holds.sockets in
    let new = sym (ap (λ (value : SocketsValue). value.sockets) c.self.view_is) ∙ c.self.invariant.holds.sockets in
    each c (λ records. report_length (family_by c.args.v6) records ≤ 1400)
    (short-changes (family_by c.args.v6) c.before-2.invariant.history (open_sockets c.self.invariant.history) c.before-2.invariant.lawful c.self.invariant.lawful.limits.sources
    (subst (λ (sockets : List Socket). IsOneCallAfter sockets (open_sockets c.self.invariant.history)) old (subst (λ (sockets : List Socket). IsOneCallAfter c.args.before.now.sockets sockets) new is)))
