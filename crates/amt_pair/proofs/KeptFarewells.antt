-- The reports of a gateway's run are in order, so its farewells are kept.
use Rattle.std.{proofs.{Common.{◌≡◌, ℕ, ◌+◌, ◌^◌, ◌<◌, true, List, [], ◌∷◌, ◌++◌, reverse, Contains, Some, refl, sym, ap, subst, ◌∙◌, append_assoc}, lemmas.List.{reverse-append, Elements.{All-contains, All-head, All-tail, Contains-append_right, filter_map-append}, Sorted.{All-permutation, Contains-permutation, IsPermutation-reverse}}}, specs.List.{All, filter_map}}
use mathlib.Core.List.{reverse-cons}
use Rattle.amt_values.specs.declared.address.Ip.{Ip}
use Rattle.endpoint_membership.specs.Log.{on_group}
use Rattle.gateway_machine.specs.{Runs.{run_of}, Settings.{HasSourceOfFamily}, declared.{event.GatewayEvent.{GatewayEvent}, settings.GatewaySettings.{GatewaySettings}}}
use Rattle.amt_pair.{specs.{Events.{AreEventsOf, MayHappen}, Sent.{Sent, SentReport, report_of, sent_back, sent_in, sent_on}, Silence.{KeepsFarewells, SayNothing}}, proofs.{Courses.{later_by}, GatewaySteps.{IsRun, moment_passed, run-next, run-start}, Listed.{Contains-filter_map, Contains-first}, TunnelReports.{AreFarewellsKept}}}

-- the reports among what was sent, newest first
abbrev reports_back : List Sent → List SentReport
reports_back sent = reverse (filter_map report_of sent)

reports-after : (sent more : List Sent) → reports_back (sent ++ more) ≡ reports_back more ++ reports_back sent
reports-after sent more =
    ap (λ (reports : List SentReport). reverse reports) (filter_map-append report_of sent more) ∙ reverse-append (filter_map report_of sent) (filter_map report_of more)

-- where a run has come to, by its events, newest first; what its relay is doesn't count
record HasCome (settings : GatewaySettings) (first : ℕ) (past : List GatewayEvent) : Type 0 where
  moment : ℕ
  run : IsRun ⊥ 0 settings first moment (reverse past) (reports_back (sent_back settings first past))

come : (settings : GatewaySettings) (first : ℕ) → HasSourceOfFamily settings → (past : List GatewayEvent) → All (MayHappen settings) past → HasCome settings first past
unfolding sent_back
come settings first own [] all = record { moment = 0; run = run-start ⊥ 0 settings first }
come settings first own (event ∷ earlier) all =
    let before = come settings first own earlier (All-tail (MayHappen settings) event earlier all) in
    let next = run-next ⊥ 0 settings first own before.moment (reverse earlier) event (reports_back (sent_back settings first earlier))
    (All-head (MayHappen settings) event earlier all) (λ wrong. absurd wrong) before.run in
    let moment = later_by (moment_passed event) before.moment in
    record {
      moment = moment;
      run = subst (λ (events : List GatewayEvent). IsRun ⊥ 0 settings first moment events (reports_back (sent_back settings first (event ∷ earlier)))) (sym (reverse-cons event earlier))
          (subst (IsRun ⊥ 0 settings first moment (reverse earlier ++ event ∷ []))
          (sym (reports-after (sent_back settings first earlier) (sent_on settings (run_of settings first (reverse earlier)) event))) next);
    }

-- of reports in their places, newest first
kept_between : (later before : List SentReport) (full earlier : SentReport) (group : Ip) → AreFarewellsKept (later ++ full ∷ before) → Contains before earlier
    → full.full_report ≡ true → on_group group full.records ≡ [] → full.moment < earlier.moment + full.keep_ms → SayNothing group earlier.records
kept_between [] before full earlier group kept among is_full none recent =
    All-contains (λ report. full.moment < report.moment + full.keep_ms → SayNothing group report.records) before earlier (kept.0 is_full group none) among recent
kept_between (first ∷ later) before full earlier group kept among is_full none recent = kept_between later before full earlier group kept.1 among is_full none recent

one-report : (sent : Sent) (report : SentReport) → report_of sent ≡ Some report → reports_back (sent ∷ []) ≡ report ∷ []
one-report sent report is = rw is refl

-- the farewells of a run are kept
pub run-keeps_farewells : (settings : GatewaySettings) (first : ℕ) (events : List GatewayEvent) → HasSourceOfFamily settings → first < 2 ^ 32 → AreEventsOf settings events
    → KeepsFarewells (sent_in settings first events)
run-keeps_farewells settings first events own small all earlier full group comes none recent =
    let run = (come settings first own (reverse events) (All-permutation (MayHappen settings) events (reverse events) (IsPermutation-reverse events) all)).run in
    let past = comes.before ++ comes.one ∷ comes.between in
    let order =
    ap reports_back (comes.order ∙ sym (append_assoc comes.before (comes.one ∷ comes.between) (comes.other ∷ comes.after)))
    ∙ reports-after past (comes.other ∷ comes.after)
    ∙ ap (λ (found : List SentReport). found ++ reports_back past) (reports-after (comes.other ∷ []) comes.after
    ∙ ap (λ (found : List SentReport). reports_back comes.after ++ found) (one-report comes.other full comes.full_is))
    ∙ append_assoc (reports_back comes.after) (full ∷ []) (reports_back past) in
    kept_between (reports_back comes.after) (reports_back past) full earlier group (subst AreFarewellsKept order run.orderly.settled.farewells)
    (Contains-permutation _ _ earlier (IsPermutation-reverse _) (Contains-filter_map report_of past comes.one earlier
    (Contains-append_right comes.before (comes.one ∷ comes.between) comes.one (Contains-first comes.one comes.between)) comes.earlier_is))
    comes.is_full none recent
