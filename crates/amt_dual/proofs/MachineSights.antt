-- A course as it is seen of one machine of a dual gateway: its own datagrams, and of the accepted log what is of its family.
use Rattle.{std.proofs.{Common.{◌≡◌, ℕ, ◌⊎◌, ◌&&◌, Bool, true, false, cond, if◌then◌else◌, List, [], ◌∷◌, reverse, All, Option, Some, None, refl, sym, ap, subst, ◌∙◌, inl, inr}, lemmas.{Bool.{and_cases, and_parts, and_right, cases_Bool, cond-false, cond-true, false_from_ne_true, or_parts, true≢false}, List.{Elements.{All-filter, All-head, filter_agree}, Folds.{list_any_none}}, Map.Views.{tells_apart}}}, amt_values.{specs.{EndpointValue.{EndpointValue}, Group.{is_forwardable}, declared.address.Ip.{Ip, TheVariants.{V4, V6}}}, proofs.Orders.{ip_order-exact}}, source_filter.specs.declared.record.Record.{Record}, endpoint_membership.specs.{EndpointGroup.{same_endpoint, same_group}, Log.{brought, on_group, records_at}, declared.change.Change.{Change, TheVariants.{Clear, Mark, Reported}}}, gateway_machine.specs.{Answers.{same_peer}, Laws.{last_of}}, relay_machine.specs.Updates.{forwardable_records}, amt_pair.specs.{Entries.{is_change_of}, Schedule.{Entry, Upward}, Sent.{SentReport, report_of}, Setup.{Host}}, amt_pair.proofs.{HeardQueries.{same_peer-is, same_peer-itself}, RelayEntries.{IsSightAt}, Sights.{ShowsGroup, Sight, is_seen_of, report_seen}, ToldReports.{IsLastSeen}, TunnelEntries.{in_group, reported-here}, Upwards.{IsOnFamily, IsUpward}}, amt_dual.{specs.{Agreement.{IsLastOfFamily, is_of_family_at, is_of_machine}, Answers.{is_machine}, Family.{concerns_family, is_group_of, names_family}}, proofs.TwinPlaces.{machine-is}}}

-- a group is of one family
other-group : (v6 other : Bool) (group : Ip) → is_machine v6 other ≡ false → is_group_of other group ≡ true → is_group_of v6 group ≡ false
other-group true true group apart own = absurd cc
other-group false false group apart own = absurd cc
other-group true false (V4 number) apart own = refl
other-group true false (V6 number) apart own = absurd cc
other-group false true (V4 number) apart own = absurd cc
other-group false true (V6 number) apart own = refl

-- records on groups of the other family name none of the family
others-unnamed : (v6 other : Bool) (records : List Record) → is_machine v6 other ≡ false → All (IsOnFamily other) records → names_family v6 records ≡ false
others-unnamed v6 other records apart all =
    list_any_none (λ group_record. is_group_of v6 group_record.group) records (λ k one below. other-group v6 other _ apart (all k one below))

-- those on groups of the family name one, where there are any
own-named : (v6 : Bool) (records : List Record) → All (IsOnFamily v6) records → names_family v6 records ≡ false → records ≡ []
own-named v6 [] all none = refl
own-named v6 (first ∷ more) all none =
    let unnamed = (or_parts (is_group_of v6 first.group) (names_family v6 more) none).0 in
    absurd (true≢false (sym (All-head (IsOnFamily v6) first more all) ∙ unnamed))

-- where none is named, none is on a group of the family
unnamed-none : (v6 : Bool) (group : Ip) (records : List Record) → is_group_of v6 group ≡ true → names_family v6 records ≡ false → on_group group records ≡ []
unnamed-none v6 group [] own none = refl
unnamed-none v6 group (first ∷ more) own none =
    let parts = or_parts (is_group_of v6 first.group) (names_family v6 more) none in
    let apart = false_from_ne_true (same_group group first.group)
    (λ same. true≢false (sym own ∙ ap (is_group_of v6) (tells_apart ip_order-exact group first.group same) ∙ parts.0)) in
    cond-false (same_group group first.group) (first ∷ on_group group more) (on_group group more) apart ∙ unnamed-none v6 group more own parts.1

-- the entry as it is where it concerns the family, else a mark of its moment
abbrev pub seen_by : Bool → Change → Change
seen_by v6 change = if concerns_family v6 change then change else Mark (brought change)

pub stays-by : (test : Bool) (change : Change)
    → ((if test then change else Mark (brought change)) ≡ change) ⊎ ((if test then change else Mark (brought change)) ≡ Mark (brought change))
stays-by true change = inl refl
stays-by false change = inr refl

-- the machine of this peer and this family
abbrev pub sight_of : Host → Sight
sight_of machine = record {
  is_own = λ host. same_peer machine.peer host.peer && is_machine machine.settings.v6 host.settings.v6;
  is_from = is_of_machine machine;
  seen = seen_by machine.settings.v6;
  own_sends = λ host sent. refl;
  stays = λ change. stays-by (concerns_family machine.settings.v6 change) change;
}

found-in : (own : Bool) (found : Option SentReport) (report : SentReport) → (if own then found else None) ≡ Some report → (own ≡ true) × (found ≡ Some report)
found-in true found report is = (refl, is)
found-in false found report is = absurd cc

neither : (test : Bool) (none : List Record) → cond test none none ≡ none
neither true none = refl
neither false none = refl

module _ (machine : Host) (endpoint : EndpointValue) where
  abbrev v6 : Bool
  v6 = machine.settings.v6

  -- all records of its own report
  said-own : (upward : Upward) (report : SentReport) (at : ℕ) → IsUpward upward → report_seen (sight_of machine) upward ≡ Some report → (group : Ip)
      → records_at (in_group endpoint group) (seen_by v6 (Reported endpoint report.records at)) ≡ reverse (on_group group report.records)
  said-own upward report at is_upward found group =
      let own = found-in (is_of_machine machine upward) (report_of upward.sent) report found in
      let family = machine-is v6 upward.v6 (and_parts (same_peer machine.peer upward.from) (is_machine v6 upward.v6) own.0).1 in
      let all : All (IsOnFamily v6) report.records =
      subst (λ (one : Bool). All (IsOnFamily one) report.records) (sym family) (is_upward.family report own.1) in
      let change = Reported endpoint report.records at in
      let said = records_at (in_group endpoint group) in
      elim (cases_Bool (names_family v6 report.records)) [
        | inl named ↦ ap said (cond-true (names_family v6 report.records) change (Mark at) named) ∙ reported-here endpoint report.records at group
        | inr none ↦
            ap said (cond-false (names_family v6 report.records) change (Mark at) none)
            ∙ sym (ap (λ (records : List Record). reverse (on_group group records)) (own-named v6 report.records all none))
      ]

  -- of the other machine's a moment
  said-others : (upward : Upward) (report : SentReport) (at : ℕ) → IsUpward upward → is_of_machine machine upward ≡ false → upward.from ≡ machine.peer
      → report_of upward.sent ≡ Some report → seen_by v6 (Reported endpoint (forwardable_records report.records) at) ≡ Mark at
  said-others upward report at is_upward other from found =
      let apart : is_machine v6 upward.v6 ≡ false = elim (and_cases (same_peer machine.peer upward.from) (is_machine v6 upward.v6) other) [
        | inl wrong ↦ absurd (true≢false (sym (ap (same_peer machine.peer) from ∙ same_peer-itself machine.peer) ∙ wrong))
        | inr is ↦ is
      ] in
      let records = forwardable_records report.records in
      let all : All (IsOnFamily upward.v6) records = All-filter (λ group_record. is_forwardable group_record.group) (IsOnFamily upward.v6) report.records (is_upward.family report found) in
      cond-false (names_family v6 records) (Reported endpoint records at) (Mark at) (others-unnamed v6 upward.v6 records apart all)

  pub sight-at : IsSightAt (sight_of machine) machine.peer endpoint
  sight-at = record {
    mine = λ upward from.
        sym (same_peer-is machine.peer upward.from (and_parts (same_peer machine.peer upward.from) (is_machine v6 upward.v6) from).0);
    said = said-own;
    others = said-others;
  }

  nothing-said : (group : Ip) → is_group_of v6 group ≡ true → (change : Change) → concerns_family v6 change ≡ false → records_at (in_group endpoint group) change ≡ []
  nothing-said group own (Reported other records at) none =
      ap (λ (said : List Record). cond (same_endpoint endpoint other) (reverse said) []) (unnamed-none v6 group records own none)
      ∙ neither (same_endpoint endpoint other) []
  nothing-said group own (Clear other at) none = absurd cc
  nothing-said group own (Mark at) none = refl

  -- all that is said of a group of the family is seen
  pub shows-family : (group : Ip) → is_group_of v6 group ≡ true → ShowsGroup (sight_of machine) (in_group endpoint group)
  shows-family group own change =
      let said = records_at (in_group endpoint group) in
      elim (cases_Bool (concerns_family v6 change)) [
        | inl its ↦ ap said (cond-true (concerns_family v6 change) change (Mark (brought change)) its)
        | inr other ↦
            ap said (cond-false (concerns_family v6 change) change (Mark (brought change)) other)
            ∙ sym (nothing-said group own change other)
      ]

  and-true : (test : Bool) → (test && true) ≡ test
  and-true true = refl
  and-true false = refl

  seen-of : (test : Bool) (change : Change) → (is_change_of endpoint change && test) ≡ is_change_of endpoint (if test then change else Mark (brought change))
  seen-of true change = and-true (is_change_of endpoint change)
  seen-of false change = and_right (is_change_of endpoint change) false refl

  -- the last that concerns the family is the last that is seen
  pub last-seen : (entries : List Entry) (report : SentReport) (at : ℕ) → IsLastOfFamily machine endpoint entries report at
      → IsLastSeen (sight_of machine) endpoint entries report at
  last-seen entries report at last = record {
    upward = last.upward;
    records = last.records;
    last =
        sym (ap (last_of None) (filter_agree (is_of_family_at v6 endpoint) (is_seen_of (sight_of machine) endpoint)
        (λ entry. seen-of (concerns_family v6 entry.change) entry.change) entries))
        ∙ last.last;
    made_by = last.made_by;
  }
