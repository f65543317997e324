-- What both ends agree on where a course leads, by what is proved of a tunnel.
use Rattle.std.proofs.Common.{◌≡◌, ℕ, Bool, true, false, List, Contains, refl, sym, ap, ◌∙◌, arith}
use Rattle.amt_values.specs.{EndpointValue.{EndpointValue}, declared.address.Ip.{Ip}}
use Rattle.source_filter.{specs.Filter.{FilterValue, admits}, proofs.MergedFilters.{admits-merged}}
use Rattle.endpoint_membership.{specs.{Admission.{rows_admit}}, proofs.AdmittedRows.{rows_admit-log}}
use Rattle.gateway_machine.specs.Runs.{Run}
use Rattle.relay_machine.{specs.{Accepted.{accepted_log}, Answers.{rows_after}, Events.{now_of}, Settings.{membership_interval_ms}}, proofs.PublishedLog.{latest-accepted_log}}
use Rattle.socket_merge.specs.{History.{AcceptedCall, open_sockets}, Interface.{filters_on, interface, wants}}
use Rattle.amt_pair.specs.{Agreement.{CountsInTime, IsActive, Names, course_admits, wanted_then, wants_now}, Schedule.{Course, Member, run_of_member}, Sent.{SentReport}, Setup.{Host, PairSetup}}
use Rattle.amt_pair.proofs.{Courses.{changes_of}, Follows.{Stands, made_for, run_at, shown}, Sights.{ShowsGroup, Sight}, ToldReports.{IsHeardIn, admits-same, member-is, told}, Tunnel.{Tunnel, is_active}, TunnelAgrees.{IsTold, admits_at, named, told-all, told-now, unwanted}, TunnelEntries.{Made, in_group}}

-- a host wants what its interface filter of the group admits
wants-interface : (history : List AcceptedCall) (group source : Ip) → wants history group source ≡ admits (interface history group) source
wants-interface history group source = sym (admits-merged (filters_on group (open_sockets history)) (interface history group) refl source)

-- ---- where a course leads

module _ (sight : Sight) (setup : PairSetup) (course : Course) (host : Host) (first : ℕ) (endpoint : EndpointValue) (InTime : Type 0) (report : SentReport)
    (logged : changes_of course.entries ≡ accepted_log setup.settings setup.secret course.relay)
    (stands : Stands sight setup host first endpoint InTime (now_of course.relay) course) (heard : IsHeardIn sight setup course endpoint report) where
  abbrev lifetime : ℕ
  lifetime = membership_interval_ms setup.settings

  -- what the course shows of the gateway, and of its entries
  abbrev tunnel : Tunnel
  tunnel = shown sight host first stands.events course

  abbrev made : List Made
  made = made_for sight course.entries

  is_told : IsTold lifetime endpoint tunnel made heard.at report
  is_told = told sight setup course host first endpoint InTime stands report heard

  same : (group source : Ip) (wanted : Bool) → ShowsGroup sight (in_group endpoint group) → admits_at lifetime endpoint tunnel.moment made group source ≡ admits (interface report.history group) source
      → admits (interface report.history group) source ≡ wanted → course_admits setup course endpoint group source ≡ wanted
  same group source wanted shows agrees is = admits-same sight setup course host first endpoint InTime stands logged group source shows ∙ agrees ∙ is

  -- of each group that the report names
  pub named-agree : (group source : Ip) → ShowsGroup sight (in_group endpoint group) → Names report group → course_admits setup course endpoint group source ≡ wanted_then report group source
  named-agree group source shows names =
      same group source _ shows (named InTime lifetime endpoint tunnel made heard.at report stands.run.orderly stands.made is_told group source names)
      (sym (wants-interface report.history group source))

  -- of a group that it doesn't name nothing was wanted
  pub unnamed-unwanted : (group source : Ip) → (Names report group → ⊥) → wanted_then report group source ≡ false
  unnamed-unwanted group source not_named =
      wants-interface report.history group source
      ∙ unwanted InTime lifetime endpoint tunnel made heard.at report stands.run.orderly stands.made is_told group source not_named

  module _ (short : CountsInTime setup) (in_time : InTime) where
    agrees : (group source : Ip) → admits_at lifetime endpoint tunnel.moment made group source ≡ admits (interface report.history group) source
    agrees group source = told-all InTime lifetime endpoint tunnel made heard.at report stands.run.orderly stands.made is_told short in_time group source

    -- of each group
    pub all-agree : (group source : Ip) → ShowsGroup sight (in_group endpoint group) → course_admits setup course endpoint group source ≡ wanted_then report group source
    all-agree group source shows = same group source _ shows (agrees group source) (sym (wants-interface report.history group source))

    -- while the gateway is Active, of what is wanted now
    pub now-agree : (group source : Ip) → ShowsGroup sight (in_group endpoint group) → (member : Member) → Contains course.members member → sight.is_own member.host ≡ true → IsActive member
        → course_admits setup course endpoint group source ≡ wants_now member group source
    now-agree group source shows member among own active =
        let is : run_at host first stands.events ≡ run_of_member member =
        ap run_of_member (member-is sight setup course host first endpoint InTime stands member among own) in
        let now = told-now InTime lifetime endpoint tunnel made heard.at report stands.run.orderly stands.made is_told short in_time
        (ap (λ (run : Run). is_active run.exchange.state) is ∙ ap is_active active) group in
        same group source _ shows (agrees group source)
        (ap (λ (filter : FilterValue). admits filter source) (sym now ∙ ap (λ (run : Run). interface run.history group) is)
        ∙ sym (wants-interface (run_of_member member).history group source))

-- the rows let in what the relay forwards, by the definitions alone
pub rows-course : (setup : PairSetup) (course : Course) (endpoint : EndpointValue) (group source : Ip)
    → rows_admit (rows_after setup.settings setup.secret course.relay) endpoint group source ≡ course_admits setup course endpoint group source
rows-course setup course endpoint group source =
    let newest = latest-accepted_log setup.settings setup.secret course.relay in
    rows_admit-log endpoint group source (membership_interval_ms setup.settings) (accepted_log setup.settings setup.secret course.relay) (now_of course.relay) (omega (arith, newest))
