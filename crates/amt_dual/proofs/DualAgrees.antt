-- What both ends agree on after a schedule of dual gateways, of the family of one machine.
use Rattle.{std.proofs.Common.{◌≡◌, ℕ, true, false, List, All, ap, ◌∙◌}, amt_values.specs.{EndpointValue.{EndpointValue}, declared.address.Ip.{Ip}}, endpoint_membership.specs.{Admission.{rows_admit}, declared.row.Row.{Row}}, relay_machine.specs.{Answers.{After, rows_after}, Events.{now_of}}, amt_pair.specs.{Agreement.{CountsInTime, IsActive, Names, wanted_then, wants_now}, Schedule.{Member}, Sent.{SentReport}}, amt_pair.proofs.{BothEnds.{all-agree, named-agree, now-agree, rows-course, unnamed-unwanted}, Follows.{Stands}, Sights.{Sight}, ToldReports.{IsHeardIn}}, amt_dual.specs.{Agreement.{IsMachineHeard, IsMachineInTime, dual_admits}, Family.{is_group_of}, Schedule.{IsDualPairEvent, dual_course_of}, Setup.{DualSetup, IsLawfulDualSetup, first_of, machines_in}, State.{DualPairAt}, declared.{event.DualPairEvent.{DualPairEvent}, pair.DualPair.{DualPair}}}, amt_dual.proofs.{DualCourses.{dual-logged-after}, DualSteps.{listed, stands-after}, MachineSights.{last-seen, shows-family, sight_of}, Machines.{machine-own}}}

module _ (setup : DualSetup) (schedule : List DualPairEvent) (machine : Member) (endpoint : EndpointValue) (report : SentReport) (lawful : IsLawfulDualSetup setup)
    (may : All (IsDualPairEvent (machines_in setup).hosts) schedule) (heard : IsMachineHeard setup schedule machine endpoint report) where
  abbrev InTime : Type 0
  InTime = IsMachineInTime setup schedule machine.host

  abbrev sight : Sight
  sight = sight_of machine.host

  abbrev first : ℕ
  first = first_of machine.host

  stands : Stands sight (machines_in setup) machine.host first endpoint InTime (now_of (dual_course_of setup schedule).relay) (dual_course_of setup schedule)
  stands = stands-after setup lawful machine.host (listed setup schedule machine heard.among) endpoint heard.endpoint_is schedule may

  heard_in : IsHeardIn sight (machines_in setup) (dual_course_of setup schedule) endpoint report
  heard_in = record {
    latest = heard.latest;
    at = heard.at;
    last = last-seen machine.host endpoint (dual_course_of setup schedule).entries report heard.at heard.last;
    fresh = heard.fresh;
  }

  -- of a group that the report doesn't name nothing was wanted
  pub unnamed-unwanted-dual : (group source : Ip) → (Names report group → ⊥) → wanted_then report group source ≡ false
  unnamed-unwanted-dual group source not_named =
      unnamed-unwanted sight (machines_in setup) (dual_course_of setup schedule) machine.host first endpoint InTime report (dual-logged-after setup schedule) stands heard_in group source not_named

  module _ (group source : Ip) (own : is_group_of machine.host.settings.v6 group ≡ true) where
    -- of each group of the family that the report names
    pub named-agree-dual : Names report group → dual_admits setup schedule endpoint group source ≡ wanted_then report group source
    named-agree-dual names =
        named-agree sight (machines_in setup) (dual_course_of setup schedule) machine.host first endpoint InTime report (dual-logged-after setup schedule) stands heard_in group source
        (shows-family machine.host endpoint group own) names

    module _ (short : CountsInTime (machines_in setup)) (in_time : InTime) where
      -- of each group of the family
      pub all-agree-dual : dual_admits setup schedule endpoint group source ≡ wanted_then report group source
      all-agree-dual =
          all-agree sight (machines_in setup) (dual_course_of setup schedule) machine.host first endpoint InTime report (dual-logged-after setup schedule) stands heard_in short in_time group source
          (shows-family machine.host endpoint group own)

      -- while the machine is Active, of what is wanted now
      pub now-agree-dual : IsActive machine → dual_admits setup schedule endpoint group source ≡ wants_now machine group source
      now-agree-dual active =
          now-agree sight (machines_in setup) (dual_course_of setup schedule) machine.host first endpoint InTime report (dual-logged-after setup schedule) stands heard_in short in_time group source
          (shows-family machine.host endpoint group own) machine heard.among (machine-own machine.host) active

pub rows-forwarded : (setup : DualSetup) (schedule : List DualPairEvent) (endpoint : EndpointValue) (group source : Ip)
    → rows_admit (rows_after setup.settings setup.secret (dual_course_of setup schedule).relay) endpoint group source ≡ dual_admits setup schedule endpoint group source
rows-forwarded setup schedule endpoint group source = rows-course (machines_in setup) (dual_course_of setup schedule) endpoint group source

pub rows-agree : (pair : DualPair) (setup : DualSetup) (schedule : List DualPairEvent) (rows : List Row) → DualPairAt pair setup schedule
    → After pair.relay (λ settings first events. rows ≡ rows_after settings first events)
    → (machine : Member) (endpoint : EndpointValue) (report : SentReport) (group source : Ip) → is_group_of machine.host.settings.v6 group ≡ true
    → CountsInTime (machines_in setup) → IsMachineInTime setup schedule machine.host → IsMachineHeard setup schedule machine endpoint report → IsActive machine
    → rows_admit rows endpoint group source ≡ wants_now machine group source
rows-agree pair setup schedule rows at are machine endpoint report group source own short in_time heard active =
    ap (λ (shown : List Row). rows_admit shown endpoint group source) (are setup.settings setup.secret (dual_course_of setup schedule).relay at.stands.relay)
    ∙ rows-forwarded setup schedule endpoint group source
    ∙ now-agree-dual setup schedule machine endpoint report at.setup_lawful at.events_may_come heard group source own short in_time active
