-- The reports among the datagrams of one gateway, where others send too.
use Rattle.std.{proofs.{Common.{◌≡◌, Bool, true, false, cond, List, [], ◌∷◌, ◌++◌, map, reverse, flat_map, Option, None, refl, ap, ◌∙◌, append-nil}, lemmas.{Bool.{cond-false, cond-true}, List.{reverse-append, Elements.{filter_map-append}}}}, specs.List.{cons_option, filter, filter_map}}
use Rattle.gateway_machine.specs.declared.event.GatewayEvent.{GatewayEvent}
use Rattle.amt_pair.{specs.{Schedule.{Member, Upward, run_of_member, upward_of, upwards_on}, Sent.{Sent, SentReport, report_of, sent_on}, Setup.{Host}}, proofs.{Sights.{Sight, report_seen}, Tunnel.{reports_on}}}

module _ (sight : Sight) where
  -- the reports that the gateway sent, newest first
  abbrev pub reports_from : List Upward → List SentReport
  reports_from up = reverse (filter_map (report_seen sight) up)

  -- the member is the gateway
  abbrev pub is_own_member : Member → Bool
  is_own_member member = sight.is_own member.host

  own-reports : (host : Host) (sent : List Sent) → sight.is_own host ≡ true → filter_map (report_seen sight) (map (upward_of host) sent) ≡ filter_map report_of sent
  own-reports host [] own = refl
  own-reports host (first ∷ more) own =
      ap (λ (found : Option SentReport). cons_option found (filter_map (report_seen sight) (map (upward_of host) more)))
      (cond-true (sight.is_from (upward_of host first)) (report_of first) None (sight.own_sends host first ∙ own))
      ∙ ap (cons_option (report_of first)) (own-reports host more own)

  other-reports : (host : Host) (sent : List Sent) → sight.is_own host ≡ false → filter_map (report_seen sight) (map (upward_of host) sent) ≡ []
  other-reports host [] other = refl
  other-reports host (first ∷ more) other =
      ap (λ (found : Option SentReport). cons_option found (filter_map (report_seen sight) (map (upward_of host) more)))
      (cond-false (sight.is_from (upward_of host first)) (report_of first) None (sight.own_sends host first ∙ other))
      ∙ other-reports host more other

  module _ (event : GatewayEvent) (reaches : Member → Bool) where
    -- the reports of the gateway among what the event has a member send
    abbrev sent_of : Member → List SentReport
    sent_of member = cond (reaches member) (filter_map (report_seen sight) (upwards_on event member)) []

    -- and among what it has all of them send
    sent_by : (members : List Member) → filter_map (report_seen sight) (flat_map (upwards_on event) (filter reaches members)) ≡ flat_map sent_of members
    sent_by [] = refl
    sent_by (member ∷ members) = first (reaches member) ∙ ap (λ (rest : List SentReport). sent_of member ++ rest) (sent_by members)
      where
        first : (reached : Bool) → filter_map (report_seen sight) (flat_map (upwards_on event) (cond reached (member ∷ filter reaches members) (filter reaches members)))
            ≡ cond reached (filter_map (report_seen sight) (upwards_on event member)) [] ++ filter_map (report_seen sight) (flat_map (upwards_on event) (filter reaches members))
        first true = filter_map-append (report_seen sight) (upwards_on event member) (flat_map (upwards_on event) (filter reaches members))
        first false = refl

    -- none by another member
    sent_of-other : (member : Member) (reached : Bool) → is_own_member member ≡ false → cond reached (filter_map (report_seen sight) (upwards_on event member)) [] ≡ []
    sent_of-other member true other = other-reports member.host (sent_on member.host.settings (run_of_member member) event) other
    sent_of-other member false other = refl

    -- so they are those of the members that are the gateway
    sent_by-own : (members : List Member) → flat_map sent_of members ≡ flat_map sent_of (filter is_own_member members)
    sent_by-own [] = refl
    sent_by-own (member ∷ members) = first (is_own_member member) refl (sent_by-own members)
      where
        first : (own : Bool) → is_own_member member ≡ own → flat_map sent_of members ≡ flat_map sent_of (filter is_own_member members)
            → sent_of member ++ flat_map sent_of members ≡ flat_map sent_of (cond own (member ∷ filter is_own_member members) (filter is_own_member members))
        first true own rest = ap (λ (more : List SentReport). sent_of member ++ more) rest
        first false other rest = ap (λ (none : List SentReport). none ++ flat_map sent_of members) (sent_of-other member (reaches member) other) ∙ rest

    -- the reports of the gateway after the event, which reaches its one member or doesn't
    pub reports_from-event : (up : List Upward) (members : List Member) (member : Member) (reached : Bool) → filter is_own_member members ≡ member ∷ [] → is_own_member member ≡ true
        → reaches member ≡ reached
        → reports_from (up ++ flat_map (upwards_on event) (filter reaches members))
        ≡ cond reached (reports_on member.host.settings (run_of_member member) event) [] ++ reports_from up
    reports_from-event up members member reached alone own is =
        let sent = sent_on member.host.settings (run_of_member member) event in
        let found =
        sent_by members ∙ sent_by-own members ∙ ap (flat_map sent_of) alone
        ∙ append-nil (sent_of member)
        ∙ ap (λ (test : Bool). cond test (filter_map (report_seen sight) (upwards_on event member)) []) is
        ∙ ap (λ (reports : List SentReport). cond reached reports []) (own-reports member.host sent own) in
        let all = flat_map (upwards_on event) (filter reaches members) in
        ap (λ (reports : List SentReport). reverse reports) (filter_map-append (report_seen sight) up all)
        ∙ reverse-append (filter_map (report_seen sight) up) (filter_map (report_seen sight) all)
        ∙ ap (λ (reports : List SentReport). reverse reports ++ reports_from up) found
        ∙ ap (λ (reports : List SentReport). reports ++ reports_from up) (either-way reached (filter_map report_of sent))
      where
        either-way : (test : Bool) (reports : List SentReport) → reverse (cond test reports []) ≡ cond test (reverse reports) []
        either-way true reports = refl
        either-way false reports = refl
