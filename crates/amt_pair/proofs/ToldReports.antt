-- What a course shows of a gateway that was heard is told of its tunnel.
use Rattle.std.{proofs.{Common.{◌≡◌, ℕ, ◌+◌, ◌<◌, max, true, cond, List, [], ◌∷◌, map, reverse, Contains, Option, Some, None, refl, sym, ap, subst, ◌∙◌, arith, inl, inr}, lemmas.{Bool.{cases_Bool, cond-false, cond-true}, List.{reverse-reverse}}}, specs.List.{filter, filter_map}}
use Rattle.amt_values.specs.{EndpointValue.{EndpointValue}, declared.address.Ip.{Ip}}
use Rattle.source_filter.specs.declared.record.Record.{Record}
use Rattle.endpoint_membership.specs.{GroupFilter.{records_admit}, Log.{brought, latest, live_chain}, declared.change.Change.{Change, TheVariants.{Reported}}}
use Rattle.gateway_machine.specs.Laws.{last_of}
use Rattle.relay_machine.{specs.{Accepted.{accepted_log}, Events.{now_of}, Settings.{membership_interval_ms}}, proofs.PublishedLog.{latest-accepted_log}}
use Rattle.amt_pair.specs.{Agreement.{course_admits}, Schedule.{Course, Entry, Member, Upward}, Sent.{SentReport}, Setup.{Host, PairSetup}}
use Rattle.amt_pair.proofs.{Courses.{changes_of}, Follows.{Stands, changes_made-for, made_for, made_of, member_of, report_by, shown}, Listed.{Contains-kept, first-is, last-passing, none-in}, PeerReports.{is_own_member, reports_from}, Sights.{ShowsGroup, Sight, brought-seen, chain-seen, is_seen_of, report_seen}}
use Rattle.amt_pair.proofs.{TunnelAgrees.{IsTold, admits_at}, TunnelEntries.{in_group, last_by, last_made}, TunnelReports.{latest_full}}

-- ---- the latest full report

latest-is : (reports : List SentReport) → latest_full reports ≡ last_of None (filter (λ report. report.full_report) (reverse reports))
latest-is [] = refl
latest-is (report ∷ earlier) =
    ap (λ (rest : Option SentReport). cond report.full_report (Some report) rest) (latest-is earlier)
    ∙ sym (last-passing (λ (report : SentReport). report.full_report) report earlier)

module _ (sight : Sight) where
  -- the full reports that the gateway sent, in order
  abbrev pub full_seen : List Upward → List SentReport
  full_seen up = filter (λ report. report.full_report) (filter_map (report_seen sight) up)

  -- the endpoint's last entry, as the gateway sees it: one that its report made
  pub record IsLastSeen (endpoint : EndpointValue) (entries : List Entry) (report : SentReport) (at : ℕ) : Type 0 where
    pub upward : Upward
    pub records : List Record
    pub last : last_of None (filter (is_seen_of sight endpoint) entries) ≡ Some (record { by = Some upward; change = Reported endpoint records at })
    pub made_by : report_seen sight upward ≡ Some report

  -- of reports newest first, and of the gateway's in order
  latest-from : (up : List Upward) → latest_full (reports_from sight up) ≡ last_of None (full_seen up)
  latest-from up =
      latest-is (reports_from sight up)
      ∙ ap (λ (reports : List SentReport). last_of None (filter (λ report. report.full_report) reports)) (reverse-reverse (filter_map (report_seen sight) up))

  -- ---- the last entry

  some-entry : (one other : Entry) → Some one ≡ Some other → one ≡ other
  some-entry one other same = cc

  last-seen : (endpoint : EndpointValue) (entries : List Entry) (entry : Entry) → last_of None (filter (is_seen_of sight endpoint) (reverse entries)) ≡ Some entry
      → last_made endpoint (map (made_of sight) entries) ≡ last_by (report_by sight entry.by) (brought (sight.seen entry.change))
  last-seen endpoint [] entry is = absurd cc
  last-seen endpoint (newest ∷ older) entry is = elim (cases_Bool (is_seen_of sight endpoint newest)) [
    | inl its ↦
        let found = sym (last-passing (is_seen_of sight endpoint) newest older
        ∙ cond-true (is_seen_of sight endpoint newest) (Some newest) (last_of None (filter (is_seen_of sight endpoint) (reverse older))) its) ∙ is in
        let same = some-entry newest entry found in
        cond-true (is_seen_of sight endpoint newest) (last_by (report_by sight newest.by) (brought (sight.seen newest.change))) (last_made endpoint (map (made_of sight) older)) its
        ∙ ap (λ (one : Entry). last_by (report_by sight one.by) (brought (sight.seen one.change))) same
    | inr others ↦
        let found = sym (last-passing (is_seen_of sight endpoint) newest older
        ∙ cond-false (is_seen_of sight endpoint newest) (Some newest) (last_of None (filter (is_seen_of sight endpoint) (reverse older))) others) ∙ is in
        cond-false (is_seen_of sight endpoint newest) (last_by (report_by sight newest.by) (brought (sight.seen newest.change))) (last_made endpoint (map (made_of sight) older)) others
        ∙ last-seen endpoint older entry found
  ]

  -- the last entry of the endpoint is one that the report made
  last-told : (endpoint : EndpointValue) (entries : List Entry) (report : SentReport) (at : ℕ) → IsLastSeen endpoint entries report at
      → last_made endpoint (made_for sight entries) ≡ Some (record { report = report; at = at })
  last-told endpoint entries report at last =
      let change = Reported endpoint last.records at in
      let entry : Entry = record { by = Some last.upward; change = change } in
      let order = ap (λ (all : List Entry). last_of None (filter (is_seen_of sight endpoint) all)) (reverse-reverse entries) in
      last-seen endpoint (reverse entries) entry (order ∙ last.last)
      ∙ ap (λ (moment : ℕ). last_by (report_seen sight last.upward) moment) (brought-seen sight change)
      ∙ ap (λ (found : Option SentReport). last_by found at) last.made_by

-- ---- the gateway that was heard

-- in the course the report is the gateway's latest full report, and the last entry of its endpoint that it sees is one
-- that this report made, accepted less than the relay's membership interval ago
pub record IsHeardIn (sight : Sight) (setup : PairSetup) (course : Course) (endpoint : EndpointValue) (report : SentReport) : Type 0 where
  pub latest : last_of None (full_seen sight course.up) ≡ Some report
  pub at : ℕ
  pub last : IsLastSeen sight endpoint course.entries report at
  pub fresh : now_of course.relay < at + membership_interval_ms setup.settings

module _ (sight : Sight) (setup : PairSetup) (course : Course) (host : Host) (first : ℕ) (endpoint : EndpointValue) (InTime : Type 0)
    (stands : Stands sight setup host first endpoint InTime (now_of course.relay) course) where
  -- the gateway is the one member that is its own
  pub member-is : (member : Member) → Contains course.members member → sight.is_own member.host ≡ true → member_of host first stands.events ≡ member
  member-is member among own =
      let listed = Contains-kept (is_own_member sight) course.members member among own in
      elim (first-is (member_of host first stands.events) member [] (subst (λ (all : List Member). Contains all member) stands.alone listed)) [
        | inl same ↦ same
        | inr none ↦ absurd (none-in member none)
      ]

  -- what is told of the tunnel
  pub told : (report : SentReport) → (heard : IsHeardIn sight setup course endpoint report)
      → IsTold (membership_interval_ms setup.settings) endpoint (shown sight host first stands.events course) (made_for sight course.entries) heard.at report
  told report heard = record {
    latest = latest-from sight course.up ∙ heard.latest;
    last = last-told sight endpoint course.entries report heard.at heard.last;
    fresh = let fresh = heard.fresh in let moment = stands.run.moment_is in omega arith;
  }

  -- what the relay admits is what is admitted at the tunnel
  pub admits-same : changes_of course.entries ≡ accepted_log setup.settings setup.secret course.relay → (group source : Ip) → ShowsGroup sight (in_group endpoint group)
      → course_admits setup course endpoint group source
      ≡ admits_at (membership_interval_ms setup.settings) endpoint (shown sight host first stands.events course).moment (made_for sight course.entries) group source
  admits-same logged group source shows =
      let lifetime = membership_interval_ms setup.settings in
      let log = accepted_log setup.settings setup.secret course.relay in
      let now = now_of course.relay in
      let newest = latest-accepted_log setup.settings setup.secret course.relay in
      let moment = stands.run.moment_is in
      let at = (shown sight host first stands.events course).moment in
      let same : max now (latest log) ≡ at = omega arith in
      ap (λ (one : ℕ). records_admit (live_chain lifetime (in_group endpoint group) one (reverse log)) source) same
      ∙ ap (λ (chain : List Record). records_admit chain source) (sym (chain-seen sight (in_group endpoint group) shows lifetime at (reverse log)))
      ∙ ap (λ (entries : List Change). records_admit (live_chain lifetime (in_group endpoint group) at entries) source)
      (sym (changes_made-for sight course.entries ∙ ap (λ (all : List Change). map sight.seen (reverse all)) logged))
