-- What holds of the reports that a gateway sends, whatever its relay hears of them: the newest is a full one, and what
-- older ones said is made good. Where a full report doesn't name a group, no report that was sent before it, while
-- farewells last, says more of the group than that it is left.
use Rattle.std.proofs.{Common.{◌≡◌, ℕ, ◌+◌, ◌<◌, ◌≤◌, ◌⊎◌, max, Bool, true, false, if◌then◌else◌, ltb, List, [], ◌∷◌, All, Option, Some, None, refl, sym, ap, subst, ◌∙◌, arith, inl, inr}, lemmas.{Bool.{cases_Bool, cond-true, false_from_ne_true, ltb-false, ltb-true}, List.Elements.{All-cons, All-head, All-nil, All-same, All-weaker}}}
use Rattle.amt_values.specs.{Group.{is_forwardable}, declared.address.Ip.{Ip}}
use Rattle.source_filter.specs.{Changes.{changes_on}, declared.mode.Mode.{Mode, TheVariants.{Include, Exclude}}, declared.record.{Record.{Record}, RecordKind.TheVariants.{ToIn}}}
use Rattle.endpoint_membership.specs.Log.{on_group}
use Rattle.socket_merge.specs.{FullReport.{longest_farewell, state_kind, states}, History.{AcceptedCall, SocketCall, latest}, Interface.{interface, is_wanted}}
use Rattle.amt_pair.specs.{Sent.{SentReport}, Silence.{IsLeaving, SayNothing}}
use Rattle.amt_pair.proofs.{MadeGood.{IsMadeGood, IsMadeGood-call, IsMadeGood-changes, IsMadeGood-full, full_on-changed, unnamed, unwanted-nothing}, Tunnel.{IsChanged, IsFull, Tunnel, called, keep_of, report_now, send}}

-- the record is on a group that packets are forwarded to
abbrev pub IsForwarded : Record → Type 0
IsForwarded group_record = is_forwardable group_record.group ≡ true

-- none of these reports, if it was sent less than so long before the moment, says more of the group than that
-- it is left
abbrev pub AreQuietSince : ℕ → ℕ → Ip → List SentReport → Type 0
AreQuietSince moment keep group reports = All (λ report. moment < report.moment + keep → SayNothing group report.records) reports

-- of reports, newest first: where a full one doesn't name a group, those before it say nothing of the group for
-- as long as farewells lasted
abbrev pub AreFarewellsKept : List SentReport → Type 0
AreFarewellsKept [] = Unit {0}
AreFarewellsKept (report ∷ earlier) =
    (report.full_report ≡ true → (group : Ip) → on_group group report.records ≡ [] → AreQuietSince report.moment report.keep_ms group earlier)
    × AreFarewellsKept earlier

-- Of each group the interface is as when the report was sent, or the report was sent so long ago that no
-- farewell lasts from then: in that case what it said was wanted was left since.
abbrev pub IsCurrentSince : List AcceptedCall → ℕ → SentReport → Type 0
IsCurrentSince history moment report =
    (group : Ip) → (interface history group ≡ interface report.history group) ⊎ (report.moment + report.keep_ms ≤ moment)

-- of the newest report, if there is one
abbrev pub OfNewest : (SentReport → Type 0) → List SentReport → Type 0
OfNewest Fact [] = Unit {0}
OfNewest Fact (newest ∷ earlier) = Fact newest

OfNewest-weaker : (Fact Other : SentReport → Type 0) → ((report : SentReport) → Fact report → Other report) → (sent : List SentReport) → OfNewest Fact sent → OfNewest Other sent
OfNewest-weaker Fact Other onward [] newest = tt
OfNewest-weaker Fact Other onward (report ∷ earlier) newest = onward report newest

-- the latest full report, of reports newest first
abbrev pub latest_full : List SentReport → Option SentReport
latest_full [] = None
latest_full (report ∷ earlier) = if report.full_report then Some report else latest_full earlier

-- ---- a full report of nothing

states_by : (mode : Mode) → state_kind mode ≡ ToIn → ⊥
states_by Include is = absurd cc
states_by Exclude is = absurd cc

-- it isn't sent, and leaves the newest report so: a group that the report stated, and that a full report would not name
-- now, was left when farewells no longer last from then
IsCurrentSince-empty : (history : List AcceptedCall) (moment keep : ℕ) (report : SentReport) → IsFull history moment keep [] → keep ≤ longest_farewell → report.keep_ms ≡ keep
    → ((group : Ip) → IsMadeGood history group report.moment (on_group group report.records)) → IsFull report.history report.moment report.keep_ms report.records
    → IsCurrentSince history moment report
IsCurrentSince-empty history moment keep report empty short same good whole group =
    let none = sym (empty group) in
    elim (cases_Bool (ltb moment (report.moment + keep))) [
      | inl recent ↦
          let within = ltb-true moment (report.moment + keep) recent in
          let leaves = good group moment keep none (omega arith) in
          let filter = interface report.history group in
          let unwanted = false_from_ne_true (is_wanted report.history group) (λ wanted.
          let said = sym (whole group ∙ cond-true (is_wanted report.history group) (states group filter ∷ []) _ wanted) in
          states_by filter.mode (All-head IsLeaving (states group filter) [] (All-same IsLeaving (states group filter ∷ []) (on_group group report.records) said leaves)).kind) in
          inl (unwanted-nothing (interface history group) (unnamed history moment keep group none).0 ∙ sym (unwanted-nothing filter unwanted))
      | inr past ↦ let later = ltb-false moment (report.moment + keep) past in inr (omega arith)
    ]

-- ---- what holds in every run; where the relay's queries state one lifetime, by that

-- a report that was sent by the moment, and of which all is made good
pub record IsReport (OfRelay : Type 0) (lifetime : ℕ) (history : List AcceptedCall) (moment : ℕ) (report : SentReport) : Type 0 where
  pub sent : report.moment ≤ moment
  pub good : (group : Ip) → IsMadeGood history group report.moment (on_group group report.records)
  pub whole : report.full_report ≡ true → IsFull report.history report.moment report.keep_ms report.records
  pub keep : OfRelay → report.keep_ms ≡ keep_of lifetime
  pub forwarded : All IsForwarded report.records

-- a full report, since which an Active gateway's sockets want the same
abbrev pub IsLatest : Type 0 → Tunnel → SentReport → Type 0
IsLatest OfRelay tunnel report =
    (report.full_report ≡ true) × (OfRelay → tunnel.is_active ≡ true → IsCurrentSince tunnel.history tunnel.moment report)

module _ (OfRelay : Type 0) (lifetime : ℕ) where
  -- the report is one of the tunnel's
  abbrev pub IsReportOf : Tunnel → SentReport → Type 0
  IsReportOf tunnel report = IsReport OfRelay lifetime tunnel.history tunnel.moment report

  -- no call was made after the moment, each report is made good, and farewells are kept
  pub record IsSettled (tunnel : Tunnel) : Type 0 where
    pub calls : latest tunnel.history ≤ tunnel.moment
    pub active : OfRelay → tunnel.is_active ≡ true → tunnel.lifetime ≡ lifetime
    pub reports : All (IsReportOf tunnel) tunnel.sent
    pub farewells : AreFarewellsKept tunnel.sent

  -- and the newest is the latest one
  pub record IsOrderly (tunnel : Tunnel) : Type 0 where
    pub settled : IsSettled tunnel
    pub newest : OfNewest (IsLatest OfRelay tunnel) tunnel.sent

  -- it has become later, and the gateway may be Active no more
  pub orderly-later : (tunnel : Tunnel) (later : ℕ) (active : Bool) → tunnel.moment ≤ later → (active ≡ true → tunnel.is_active ≡ true) → IsOrderly tunnel
      → IsOrderly (record tunnel { moment = later; is_active = active })
  orderly-later tunnel later active onward was orderly =
      let next : Tunnel = record tunnel { moment = later; is_active = active } in
      let settled = orderly.settled in
      let calls = settled.calls in
      record {
        settled = record {
          calls = omega arith;
          active = λ relay on. settled.active relay (was on);
          reports = All-weaker (IsReportOf tunnel) (IsReportOf next) (λ report is.
              let sent = is.sent in record { sent = omega arith; good = is.good; whole = is.whole; keep = is.keep; forwarded = is.forwarded }) tunnel.sent settled.reports;
          farewells = settled.farewells;
        };
        newest = OfNewest-weaker (IsLatest OfRelay tunnel) (IsLatest OfRelay next) (λ report is. (
          is.0,
          λ relay on group. elim (is.1 relay (was on) group) [
            | inl same ↦ inl same
            | inr past ↦ inr (omega arith)
          ],
        )) tunnel.sent orderly.newest;
      }

  settled-called : (tunnel : Tunnel) (call : SocketCall) → IsSettled tunnel → IsSettled (called tunnel call)
  settled-called tunnel call settled =
      let calls = settled.calls in
      let newest : AcceptedCall = record { moment = max (latest tunnel.history) tunnel.moment; call = call } in
      record {
        calls = omega arith;
        active = settled.active;
        reports = All-weaker (IsReportOf tunnel) (IsReportOf (called tunnel call)) (λ report is.
            let sent = is.sent in record {
              sent = sent;
              good = λ group. IsMadeGood-call newest tunnel.history group report.moment (on_group group report.records) (omega arith) (is.good group);
              whole = is.whole;
              keep = is.keep;
              forwarded = is.forwarded;
            }) tunnel.sent settled.reports;
        farewells = settled.farewells;
      }

  settled-sent : (tunnel : Tunnel) (is_full : Bool) (records : List Record) → ((group : Ip) → IsMadeGood tunnel.history group tunnel.moment (on_group group records))
      → (is_full ≡ true → IsFull tunnel.history tunnel.moment (keep_of tunnel.lifetime) records) → All IsForwarded records → tunnel.is_active ≡ true
      → IsSettled tunnel → IsSettled (send tunnel is_full records)
  settled-sent tunnel is_full [] good whole forwarded on settled = settled
  settled-sent tunnel is_full (first ∷ more) good whole forwarded on settled =
      let keep = keep_of tunnel.lifetime in
      let short : keep ≤ longest_farewell = omega arith in
      record {
        calls = settled.calls;
        active = settled.active;
        reports = All-cons (IsReportOf tunnel) (report_now tunnel is_full (first ∷ more)) tunnel.sent
            (record { sent = omega arith; good = good; whole = whole; keep = λ relay. ap keep_of (settled.active relay on); forwarded = forwarded }) settled.reports;
        farewells = (
          λ full group none. All-weaker (IsReportOf tunnel) (λ report. tunnel.moment < report.moment + keep → SayNothing group report.records)
              (λ report is recent. is.good group tunnel.moment keep (sym (whole full group) ∙ none) (omega arith)) tunnel.sent settled.reports,
          settled.farewells,
        );
      }

  newest-full : (tunnel : Tunnel) (records : List Record) → (records ≡ [] → OfNewest (IsLatest OfRelay tunnel) tunnel.sent)
      → OfNewest (IsLatest OfRelay (send tunnel true records)) (send tunnel true records).sent
  newest-full tunnel [] empty = empty refl
  newest-full tunnel (first ∷ more) empty = (refl, λ relay on group. inl refl)

  orderly-full : (tunnel : Tunnel) (records : List Record) → IsFull tunnel.history tunnel.moment (keep_of tunnel.lifetime) records → All IsForwarded records → tunnel.is_active ≡ true
      → (records ≡ [] → OfNewest (IsLatest OfRelay tunnel) tunnel.sent) → IsSettled tunnel → IsOrderly (send tunnel true records)
  orderly-full tunnel records whole forwarded on empty settled = record {
    settled = settled-sent tunnel true records
        (λ group. subst (IsMadeGood tunnel.history group tunnel.moment) (sym (whole group))
        (IsMadeGood-full tunnel.history tunnel.moment tunnel.moment (keep_of tunnel.lifetime) group))
        (λ _. whole) forwarded on settled;
    newest = newest-full tunnel records empty;
  }

  -- it accepts a Query of this lifetime, and sends this full report
  abbrev pub asked : Tunnel → ℕ → Tunnel
  asked tunnel stated = record tunnel { is_active = true; lifetime = stated }

  newest-asked : (tunnel : Tunnel) (stated : ℕ) → (OfRelay → stated ≡ lifetime) → IsFull tunnel.history tunnel.moment (keep_of stated) [] → (sent : List SentReport)
      → All (IsReportOf tunnel) sent → OfNewest (IsLatest OfRelay tunnel) sent → OfNewest (IsLatest OfRelay (asked tunnel stated)) sent
  newest-asked tunnel stated relay empty [] reports newest = tt
  newest-asked tunnel stated relay empty (report ∷ earlier) reports newest =
      let is = All-head (IsReportOf tunnel) report earlier reports in (
        newest.0,
        λ of_relay on. IsCurrentSince-empty tunnel.history tunnel.moment (keep_of stated) report empty (omega arith)
            (is.keep of_relay ∙ ap keep_of (sym (relay of_relay))) is.good (is.whole newest.0),
      )

  pub orderly-asked : (tunnel : Tunnel) (stated : ℕ) (full : List Record) → (OfRelay → stated ≡ lifetime) → IsFull tunnel.history tunnel.moment (keep_of stated) full
      → All IsForwarded full → IsOrderly tunnel → IsOrderly (send (asked tunnel stated) true full)
  orderly-asked tunnel stated full relay whole forwarded orderly =
      let settled = orderly.settled in
      orderly-full (asked tunnel stated) full whole forwarded refl
      (λ none. newest-asked tunnel stated relay (subst (IsFull tunnel.history tunnel.moment (keep_of stated)) none whole) tunnel.sent settled.reports orderly.newest)
      (record { calls = settled.calls; active = λ of_relay on. relay of_relay; reports = settled.reports; farewells = settled.farewells })

  -- it accepts a socket call, and sends nothing
  pub orderly-kept : (tunnel : Tunnel) (call : SocketCall) → (tunnel.is_active ≡ false) ⊎ ((group : Ip) → interface tunnel.history group ≡ interface (called tunnel call).history group)
      → IsOrderly tunnel → IsOrderly (called tunnel call)
  orderly-kept tunnel call kept orderly = record {
    settled = settled-called tunnel call orderly.settled;
    newest = OfNewest-weaker (IsLatest OfRelay tunnel) (IsLatest OfRelay (called tunnel call)) (λ report is. (
      is.0,
      λ relay on group. elim kept [
        | inl idle ↦ absurd cc
        | inr same ↦ elim (is.1 relay on group) [
          | inl now ↦ inl (sym (same group) ∙ now)
          | inr past ↦ inr past
        ]
      ],
    )) tunnel.sent orderly.newest;
  }

  -- it accepts a socket call, and sends these change records and this full report, which isn't empty
  pub orderly-changed : (tunnel : Tunnel) (call : SocketCall) (first : Record) (more full : List Record) → tunnel.is_active ≡ true
      → ((group : Ip) → on_group group (first ∷ more) ≡ changes_on (interface tunnel.history group) (interface (called tunnel call).history group) group)
      → IsFull (called tunnel call).history tunnel.moment (keep_of tunnel.lifetime) full → IsChanged tunnel.history (called tunnel call).history
      → All IsForwarded (first ∷ more) → All IsForwarded full → IsOrderly tunnel → IsOrderly (send (send (called tunnel call) false (first ∷ more)) true full)
  orderly-changed tunnel call first more full on said whole changed these those orderly =
      let newest : AcceptedCall = record { moment = max (latest tunnel.history) tunnel.moment; call = call } in
      let later = called tunnel call in
      let sent = settled-sent later false (first ∷ more) (λ group. subst (IsMadeGood later.history group tunnel.moment) (sym (said group))
      (IsMadeGood-changes newest tunnel.history group tunnel.moment (omega arith))) (λ wrong. absurd cc) these on (settled-called tunnel call orderly.settled) in
      orderly-full (send later false (first ∷ more)) full whole those on
      (λ none. absurd (full_on-changed newest tunnel.history tunnel.moment (keep_of tunnel.lifetime) changed.0 (omega arith) changed.1 (sym (whole changed.0) ∙ ap (on_group changed.0) none))) sent

  -- ---- the latest full report

  -- the report is one of these reports, the latest, and since then none says anything of a group that it doesn't name
  pub record IsNewest (tunnel : Tunnel) (sent : List SentReport) (report : SentReport) : Type 0 where
    pub is : IsReportOf tunnel report
    pub latest_one : IsLatest OfRelay tunnel report
    pub quiet : (group : Ip) → on_group group report.records ≡ [] → AreQuietSince report.moment report.keep_ms group sent

  newest-by : (tunnel : Tunnel) (sent : List SentReport) (report : SentReport) → All (IsReportOf tunnel) sent → AreFarewellsKept sent
      → OfNewest (IsLatest OfRelay tunnel) sent → latest_full sent ≡ Some report → IsNewest tunnel sent report
  newest-by tunnel [] report reports farewells newest told = absurd cc
  newest-by tunnel (first ∷ earlier) report reports farewells newest told =
      let some : Some first ≡ Some report = sym (cond-true first.full_report (Some first) (latest_full earlier) newest.0) ∙ told in
      let same : first ≡ report = cc in
      subst (IsNewest tunnel (first ∷ earlier)) same (record {
        is = All-head (IsReportOf tunnel) first earlier reports;
        latest_one = newest;
        quiet = λ group none. All-cons (λ one. first.moment < one.moment + first.keep_ms → SayNothing group one.records) first earlier
            (λ _. All-same IsLeaving (on_group group first.records) [] none (All-nil IsLeaving)) (farewells.0 newest.0 group none);
      })

  pub newest-told : (tunnel : Tunnel) (report : SentReport) → IsOrderly tunnel → latest_full tunnel.sent ≡ Some report → IsNewest tunnel tunnel.sent report
  newest-told tunnel report orderly told = newest-by tunnel tunnel.sent report orderly.settled.reports orderly.settled.farewells orderly.newest told
