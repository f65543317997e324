-- What both ends agree on, of one family of a dual gateway: nothing is asked of the other family's machine.
use Rattle.std.specs.{Prelude.{◌≡◌, ℕ, ◌+◌, ◌<◌, ◌≤◌, ◌&&◌, Bool, true, List, ◌∷◌, ◌++◌, Contains, Option, Some, None, if◌then◌else◌}, List.{filter, filter_map}}
use Rattle.amt_values.specs.{Endpoint.{endpoint_of}, EndpointValue.{EndpointValue}, declared.address.Ip.{Ip}}
use Rattle.source_filter.specs.declared.record.Record.{Record}
use Rattle.endpoint_membership.specs.declared.change.Change.TheVariants.{Reported}
use Rattle.gateway_machine.specs.{Answers.{same_peer}, Laws.{last_of}}
use Rattle.relay_machine.specs.{Events.{now_of}, Settings.{membership_interval_ms}}
use Rattle.amt_pair.specs.{Agreement.{course_admits, is_of_endpoint}, Schedule.{Entry, Member, Upward, numbered}, Sent.{SentReport, report_of}, Setup.{Host}}
use Rattle.amt_dual.specs.{Answers.{is_machine}, Family.{concerns_family}, Schedule.{dual_course_of}, Setup.{DualSetup, machines_in}, declared.event.DualPairEvent.{DualPairEvent, TheVariants.{Up}}}

-- the machine sent the datagram
abbrev pub is_of_machine : Host → Upward → Bool
is_of_machine machine upward = same_peer machine.peer upward.from && is_machine machine.settings.v6 upward.v6

-- the report in a datagram of this machine
abbrev pub report_of_machine : Host → Upward → Option SentReport
report_of_machine machine upward = if is_of_machine machine upward then report_of upward.sent else None

-- the full reports that a machine sent, in order
abbrev pub full_reports_of : Host → List Upward → List SentReport
full_reports_of machine up = filter (λ report. report.full_report) (filter_map (report_of_machine machine) up)

-- the entry is the endpoint's, and concerns the family
abbrev pub is_of_family_at : Bool → EndpointValue → Entry → Bool
is_of_family_at v6 endpoint entry = is_of_endpoint endpoint entry && concerns_family v6 entry.change

-- the last entry of the endpoint that concerns the machine's family: the report that made it, by whom, and when
pub record IsLastOfFamily (machine : Host) (endpoint : EndpointValue) (entries : List Entry) (report : SentReport) (at : ℕ) : Type 0 where
  pub upward : Upward
  pub records : List Record
  pub last : last_of None (filter (is_of_family_at machine.settings.v6 endpoint) entries) ≡ Some (record { by = Some upward; change = Reported endpoint records at })
  pub made_by : report_of_machine machine upward ≡ Some report

-- After the schedule the report is the machine's latest full report, and the last entry of its endpoint that concerns its
-- family is one that this report made, accepted less than the relay's membership interval ago.
pub record IsMachineHeard (setup : DualSetup) (schedule : List DualPairEvent) (machine : Member) (endpoint : EndpointValue) (report : SentReport) : Type 0 where
  pub among : Contains (dual_course_of setup schedule).members machine
  pub endpoint_is : endpoint_of machine.host.peer ≡ Some endpoint
  pub latest : last_of None (full_reports_of machine.host (dual_course_of setup schedule).up) ≡ Some report
  pub at : ℕ
  pub last : IsLastOfFamily machine.host endpoint (dual_course_of setup schedule).entries report at
  pub fresh : now_of (dual_course_of setup schedule).relay < at + membership_interval_ms setup.settings

-- no delivery of a datagram of this machine comes more than a minute after it was sent; those of the other machine at its
-- peer may come as late as they like
abbrev pub IsMachineInTime : DualSetup → List DualPairEvent → Host → Type 0
IsMachineInTime setup schedule machine =
    (before after : List DualPairEvent) (number : ℕ) (upward : Upward) → schedule ≡ before ++ Up number ∷ after
    → numbered (dual_course_of setup before).up number ≡ Some upward → is_of_machine machine upward ≡ true
    → now_of (dual_course_of setup before).relay ≤ upward.sent.exchange.moment + 60000

-- after the schedule the relay forwards packets of the source in the group to the endpoint
abbrev pub dual_admits : DualSetup → List DualPairEvent → EndpointValue → Ip → Ip → Bool
dual_admits setup schedule endpoint group source = course_admits (machines_in setup) (dual_course_of setup schedule) endpoint group source
