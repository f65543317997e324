-- The addresses of the records of a full report, and of those of a change.
use Rattle.std.{proofs.{Common.{◌≡◌, ℕ, ◌/◌, ◌^◌, true, List, [], arith}, lemmas.{Bool.{and_parts, eqb-true}, List.Elements.{All-nil}}}, specs.List.{All, flat_map}}
use Rattle.amt_values.specs.{Address.{IsAddress}, Group.{is_forwardable}, declared.address.Ip.{Ip, TheVariants.{V4, V6}}}
use Rattle.source_filter.specs.{Changes.{changes_on}, declared.record.{Record.{Record}, RecordKind.{RecordKind, TheVariants.{ToIn}}}}
use Rattle.group_records.specs.{Written.{FitsOctets, HasFittingAddresses, IsOfFamily, is_of_family}, declared.family.Family.{Family}}
use Rattle.socket_merge.{specs.{Changes.{change_records}, FullReport.{full_on, full_report_of, groups_of, is_recent, state_kind}, History.{AcceptedCall, groups_opened, open_sockets}, Interface.{filters_on, interface, is_wanted, left_at}}, proofs.{Changed.{All-changes_by}, Reports.{All-said, all_by}, Wanted.{All-merged}}}
use Rattle.amt_pair.proofs.{Histories.{IsGroupOf, IsHistoryOf}, InterfaceFilters.{filters-of}}

-- the record may stand in a report of the family
pub record MayStand (family : Family) (group_record : Record) : Type 0 where
  pub forwarded : is_forwardable group_record.group ≡ true
  pub own : IsOfFamily family group_record
  pub fit : HasFittingAddresses group_record

-- ---- addresses fit their octets

address-fits : (address : Ip) → IsAddress address → FitsOctets address
address-fits (V4 number) small = small
address-fits (V6 number) small = small

-- a group that packets are forwarded to has an address of its family's size
forwarded-fits : (group : Ip) → is_forwardable group ≡ true → FitsOctets group
forwarded-fits (V4 number) forwarded = let high = eqb-true (number / 2 ^ 28) 14 (and_parts _ _ forwarded).0 in omega arith
forwarded-fits (V6 number) forwarded = let high = eqb-true (number / 2 ^ 120) 0xff (and_parts _ _ forwarded).0 in omega arith

-- ---- what holds of each group of a family

module _ (family : Family) where
  -- such a source may stand in a record
  abbrev IsSourceOf : Ip → Type 0
  IsSourceOf source = (is_of_family family source ≡ true) × FitsOctets source

  -- a record of the group with such sources may stand in a report
  may-stand : (group : Ip) (kind : RecordKind) (sources : List Ip) → IsGroupOf family group → All IsSourceOf sources
      → MayStand family (record { kind = kind; group = group; sources = sources })
  may-stand group kind sources is all = record {
    forwarded = is.forwarded;
    own = record { group = is.own; sources = λ k source below. (all k source below).0 };
    fit = record { group = forwarded-fits group is.forwarded; sources = λ k source below. (all k source below).1 };
  }

  module _ (history : List AcceptedCall) (is : IsHistoryOf family history) where
    -- what holds of the records of each group of the family holds of all
    All-groups : (P : Record → Type 0) (f : Ip → List Record) → ((group : Ip) → IsGroupOf family group → All P (f group)) → All P (flat_map f (groups_of family history))
    All-groups P f each = All-said P (IsGroupOf family) family f (groups_opened history) is.groups (λ group own of. each group own)

    -- the sources of a group's filter are such
    sources-of : (group : Ip) → All IsSourceOf (interface history group).sources
    sources-of group =
        All-merged IsSourceOf (filters_on group (open_sockets history)) (λ k filter below k' source below'.
        let own = filters-of family history is group k filter below in (own.own k' source below', address-fits _ (own.is.addresses k' source below')))

  -- the records of a full report may stand in one
  pub full-may_stand : (history : List AcceptedCall) (at keep : ℕ) → IsHistoryOf family history → All (MayStand family) (full_report_of family history at keep)
  unfolding full_report_of
  full-may_stand history at keep is =
      All-groups history is (MayStand family) (full_on history at keep) (λ group own.
      let filter = interface history group in
      all_by (MayStand family) (is_wanted history group) (is_recent at keep (left_at history group)) group filter
      (may-stand group (state_kind filter.mode) filter.sources own (sources-of history is group)) (may-stand group ToIn [] own (All-nil IsSourceOf)))

  -- and so may those of a change
  pub changed-may_stand : (newer older : List AcceptedCall) → IsHistoryOf family newer → IsHistoryOf family older → All (MayStand family) (change_records family older newer)
  unfolding change_records
  changed-may_stand newer older now then =
      All-groups newer now (MayStand family) (λ group. changes_on (interface older group) (interface newer group) group) (λ group own.
      let before = interface older group in
      let after = interface newer group in
      All-changes_by (MayStand family) group IsSourceOf (λ kind sources all. may-stand group kind sources own all)
      before.mode after.mode before.sources after.sources (sources-of older then group) (sources-of newer now group))
