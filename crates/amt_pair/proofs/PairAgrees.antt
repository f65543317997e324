-- What both ends of a pair agree on after a schedule: each gateway is alone at its peer.
use Rattle.std.proofs.Common.{◌≡◌, false, List, All, refl, ap, ◌∙◌}
use Rattle.amt_values.specs.{EndpointValue.{EndpointValue}, declared.address.Ip.{Ip}}
use Rattle.endpoint_membership.specs.{Admission.{rows_admit}, declared.row.Row.{Row}}
use Rattle.relay_machine.specs.{Answers.{After, rows_after}, Events.{now_of}}
use Rattle.amt_pair.specs.{Agreement.{CountsInTime, IsActive, IsHeard, IsInTime, Names, relay_admits, wanted_then, wants_now}, Schedule.{IsPairEvent, Member, course_of}, Sent.{SentReport}, Setup.{IsLawfulSetup, PairSetup, first_nonce}, State.{PairAt}, declared.{event.PairEvent.{PairEvent}, pair.Pair.{Pair}}}
use Rattle.amt_pair.proofs.{BothEnds.{all-agree, named-agree, now-agree, rows-course, unnamed-unwanted}, Courses.{logged-after}, Follows.{Stands}, HeardQueries.{same_peer-itself}, PairSteps.{listed, stands-after}, Sights.{Sight, alone_at}, ToldReports.{IsHeardIn}}

module _ (setup : PairSetup) (schedule : List PairEvent) (member : Member) (endpoint : EndpointValue) (report : SentReport) (lawful : IsLawfulSetup setup)
    (may : All (IsPairEvent setup.hosts) schedule) (heard : IsHeard setup schedule member endpoint report) where
  abbrev InTime : Type 0
  InTime = IsInTime setup schedule member.host.peer

  abbrev sight : Sight
  sight = alone_at member.host.peer

  stands : Stands sight setup member.host first_nonce endpoint InTime (now_of (course_of setup schedule).relay) (course_of setup schedule)
  stands = stands-after setup lawful member.host (listed setup schedule member heard.among) endpoint heard.endpoint_is schedule may

  heard_in : IsHeardIn sight setup (course_of setup schedule) endpoint report
  heard_in = record {
    latest = heard.latest;
    at = heard.at;
    last = record { upward = heard.last.upward; records = heard.last.records; last = heard.last.last; made_by = heard.last.made_by };
    fresh = heard.fresh;
  }

  -- of each group that the report names
  pub named-agree-pair : (group source : Ip) → Names report group → relay_admits setup schedule endpoint group source ≡ wanted_then report group source
  named-agree-pair group source names =
      named-agree sight setup (course_of setup schedule) member.host first_nonce endpoint InTime report (logged-after setup schedule) stands heard_in group source (λ change. refl) names

  -- of a group that it doesn't name nothing was wanted
  pub unnamed-unwanted-pair : (group source : Ip) → (Names report group → ⊥) → wanted_then report group source ≡ false
  unnamed-unwanted-pair group source not_named =
      unnamed-unwanted sight setup (course_of setup schedule) member.host first_nonce endpoint InTime report (logged-after setup schedule) stands heard_in group source not_named

  module _ (short : CountsInTime setup) (in_time : InTime) where
    -- of each group
    pub all-agree-pair : (group source : Ip) → relay_admits setup schedule endpoint group source ≡ wanted_then report group source
    all-agree-pair group source =
        all-agree sight setup (course_of setup schedule) member.host first_nonce endpoint InTime report (logged-after setup schedule) stands heard_in short in_time group source (λ change. refl)

    -- while the gateway is Active, of what is wanted now
    pub now-agree-pair : (group source : Ip) → IsActive member → relay_admits setup schedule endpoint group source ≡ wants_now member group source
    now-agree-pair group source active =
        now-agree sight setup (course_of setup schedule) member.host first_nonce endpoint InTime report (logged-after setup schedule) stands heard_in short in_time group source (λ change. refl) member heard.among (same_peer-itself member.host.peer) active

-- ---- the rows let in what the relay forwards

pub rows-forwarded : (setup : PairSetup) (schedule : List PairEvent) (endpoint : EndpointValue) (group source : Ip)
    → rows_admit (rows_after setup.settings setup.secret (course_of setup schedule).relay) endpoint group source ≡ relay_admits setup schedule endpoint group source
rows-forwarded setup schedule endpoint group source = rows-course setup (course_of setup schedule) endpoint group source

pub rows-agree : (pair : Pair) (setup : PairSetup) (schedule : List PairEvent) (rows : List Row) → PairAt pair setup schedule
    → After pair.relay (λ settings first events. rows ≡ rows_after settings first events)
    → (member : Member) (endpoint : EndpointValue) (report : SentReport) (group source : Ip) → CountsInTime setup → IsInTime setup schedule member.host.peer
    → IsHeard setup schedule member endpoint report → IsActive member → rows_admit rows endpoint group source ≡ wants_now member group source
rows-agree pair setup schedule rows at are member endpoint report group source short in_time heard active =
    ap (λ (shown : List Row). rows_admit shown endpoint group source) (are setup.settings setup.secret (course_of setup schedule).relay at.stands.relay)
    ∙ rows-forwarded setup schedule endpoint group source
    ∙ now-agree-pair setup schedule member endpoint report at.setup_lawful at.events_may_come heard short in_time group source active
