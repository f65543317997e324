-- What both ends agree on: what a gateway's sockets want, and what the relay forwards to its endpoint.
use Rattle.std.specs.{Prelude.{◌≡◌, ◌≢◌, ℕ, ◌+◌, ◌<◌, ◌≤◌, Bool, List, [], ◌∷◌, ◌++◌, Contains, Option, Some, None, if◌then◌else◌}, List.{filter, filter_map}}
use Rattle.amt_values.specs.{Endpoint.{endpoint_of}, EndpointValue.{EndpointValue}, declared.{address.Ip.{Ip}, peer.Peer.{Peer}}}
use Rattle.source_filter.specs.declared.record.Record.{Record}
use Rattle.endpoint_membership.specs.{Admission.{is_admitted}, Log.{on_group}, declared.change.Change.TheVariants.{Reported}}
use Rattle.gateway_machine.specs.{Answers.{same_peer}, Laws.{last_of}, declared.exchange.GatewayState.TheVariants.{Active}}
use Rattle.relay_machine.specs.{Accepted.{accepted_log}, Events.{now_of}, Settings.{membership_interval_ms}}
use Rattle.socket_merge.specs.Interface.{wants}
use Rattle.amt_pair.specs.{Entries.{is_change_of}, Schedule.{Course, Entry, Member, Upward, course_of, numbered, run_of_member}, Sent.{SentReport, report_of}, Setup.{PairSetup}, declared.event.PairEvent.{PairEvent, TheVariants.{Up}}}

-- the report in a datagram of this peer
abbrev pub report_from : Peer → Upward → Option SentReport
report_from peer upward = if same_peer peer upward.from then report_of upward.sent else None

-- the full reports that a peer sent, in order
abbrev pub full_reports : Peer → List Upward → List SentReport
full_reports peer up = filter (λ report. report.full_report) (filter_map (report_from peer) up)

-- the entry is the endpoint's
abbrev pub is_of_endpoint : EndpointValue → Entry → Bool
is_of_endpoint endpoint entry = is_change_of endpoint entry.change

-- an endpoint's last entry: the report that made it, by whom, and when
pub record IsLastEntry (peer : Peer) (endpoint : EndpointValue) (entries : List Entry) (report : SentReport) (at : ℕ) : Type 0 where
  pub upward : Upward
  pub records : List Record
  pub last : last_of None (filter (is_of_endpoint endpoint) entries) ≡ Some (record { by = Some upward; change = Reported endpoint records at })
  pub made_by : report_from peer upward ≡ Some report

-- After the schedule the report is the gateway's latest full report, and the last entry of its endpoint is
-- one that this report made, accepted less than the relay's membership interval ago.
pub record IsHeard (setup : PairSetup) (schedule : List PairEvent) (member : Member) (endpoint : EndpointValue) (report : SentReport) : Type 0 where
  pub among : Contains (course_of setup schedule).members member
  pub endpoint_is : endpoint_of member.host.peer ≡ Some endpoint
  pub latest : last_of None (full_reports member.host.peer (course_of setup schedule).up) ≡ Some report
  pub at : ℕ
  pub last : IsLastEntry member.host.peer endpoint (course_of setup schedule).entries report at
  pub fresh : now_of (course_of setup schedule).relay < at + membership_interval_ms setup.settings

-- no delivery of a datagram of this peer comes more than a minute after it was sent
abbrev pub IsInTime : PairSetup → List PairEvent → Peer → Type 0
IsInTime setup schedule peer =
    (before after : List PairEvent) (number : ℕ) (upward : Upward) → schedule ≡ before ++ Up number ∷ after
    → numbered (course_of setup before).up number ≡ Some upward → upward.from ≡ peer
    → now_of (course_of setup before).relay ≤ upward.sent.exchange.moment + 60000

-- reports count at the relay for a time that leaves that minute within the longest time of farewells
abbrev pub CountsInTime : PairSetup → Type 0
CountsInTime setup = membership_interval_ms setup.settings ≤ 99940000

-- where a course leads the relay forwards packets of the source in the group to the endpoint
abbrev pub course_admits : PairSetup → Course → EndpointValue → Ip → Ip → Bool
course_admits setup course endpoint group source =
    is_admitted (membership_interval_ms setup.settings) (accepted_log setup.settings setup.secret course.relay)
    (record { endpoint = endpoint; group = group }) source (now_of course.relay)

-- and so it does after the schedule
abbrev pub relay_admits : PairSetup → List PairEvent → EndpointValue → Ip → Ip → Bool
relay_admits setup schedule endpoint group source = course_admits setup (course_of setup schedule) endpoint group source

-- the report names the group
abbrev pub Names : SentReport → Ip → Type 0
Names report group = on_group group report.records ≢ []

-- a socket let the source in when the report was sent
abbrev pub wanted_then : SentReport → Ip → Ip → Bool
wanted_then report group source = wants report.history group source

-- a socket of the gateway lets the source in
abbrev pub wants_now : Member → Ip → Ip → Bool
wants_now member group source = wants (run_of_member member).history group source

-- the gateway is Active
abbrev pub IsActive : Member → Type 0
IsActive member = (run_of_member member).exchange.state ≡ Active
