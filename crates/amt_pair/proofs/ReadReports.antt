-- A report that a gateway writes is read as the records that it wrote.
use Rattle.std.{proofs.{Common.{◌≡◌, ℕ, ◌+◌, ◌%◌, ◌^◌, ◌<◌, ◌≤◌, true, List, [], ◌∷◌, ◌++◌, length, Ok, refl, sym, ap, subst, ◌∙◌, append-nil, arith, rules}, Math.Nat.{mod-lt}}, specs.List.{All, flat_map}}
use Rattle.byteorder.specs.{Endian.{big_bytes, big_from}, Numbers.{big_from-bytes, length-bytes_high_first}}
use Rattle.amt_values.{specs.{Octets.{AreOctets}, declared.address.Ip.{Ip, TheVariants.{V4, V6}}}, proofs.NetworkOrder.{AreOctets-bytes_high_first, bytes_high_first-big_from}}
use Rattle.source_filter.specs.declared.record.{Record.{Record}, RecordKind.{RecordKind, TheVariants.{IsIn}}}
use Rattle.inner_datagrams.{specs.{Checksum.{internet_sum_of}, Written.{hop_by_hop_header, written_inner4, written_inner6}}, proofs.{Octets.{AreOctets-from_each}, Parts.{AreOctets-append}, ReadBack.{IsInner4-written_inner4, IsInner6-written_inner6}}}
use Rattle.group_records.{specs.{declared.family.Family.{Family, TheVariants.{V4 as Igmp, V6 as Mld}}, Family.{report_type}, Report.{IsReport}, Written.{FitsOctets, HasFittingAddresses, IsOfFamily, address_octets, is_of_family, kind_number, report_length, report_with_sum, written_record, written_report}}, proofs.WrittenReport.{IsReport-written_report, length-written_report}}
use Rattle.mld_records.specs.PseudoHeader.{pseudo_header}
use Rattle.gateway_machine.specs.Reports.{igmp_routers, mld_routers, report_datagram}
use Rattle.relay_machine.{specs.{Lawful.{IsLawful}, Updates.{report_in}}, proofs.Lawful.{report_in-lawful}}
use Rattle.amt_pair.proofs.ReadQueries.{AreOctets-pseudo_header, even-pseudo_header}

-- ---- what stands in a report is octets

AreOctets-flat_map : {X : Type 0} (f : X → List ℕ) → ((x : X) → AreOctets (f x)) → (xs : List X) → AreOctets (flat_map f xs)
AreOctets-flat_map f each [] k = omega arith
AreOctets-flat_map f each (x ∷ xs) k = AreOctets-append (f x) (flat_map f xs) (each x) (AreOctets-flat_map f each xs) k

AreOctets-address : (address : Ip) → AreOctets (address_octets address)
AreOctets-address (V4 number) = AreOctets-bytes_high_first 4 number
AreOctets-address (V6 number) = AreOctets-bytes_high_first 16 number

AreOctets-record : (group_record : Record) → AreOctets (written_record group_record)
AreOctets-record group_record =
    let count = length group_record.sources in
    AreOctets-append (kind_number group_record.kind ∷ 0 ∷ big_bytes 2 count) (address_octets group_record.group ++ flat_map address_octets group_record.sources)
    (head (kind_number group_record.kind) count (kind_fits group_record.kind))
    (AreOctets-append (address_octets group_record.group) (flat_map address_octets group_record.sources)
    (AreOctets-address group_record.group) (AreOctets-flat_map address_octets AreOctets-address group_record.sources))
  where
    head : (kind count : ℕ) → kind < 256 → AreOctets (kind ∷ 0 ∷ big_bytes 2 count)
    head kind count fits = AreOctets-from_each (kind ∷ 0 ∷ big_bytes 2 count) (search rules)

    kind_fits : (kind : RecordKind) → kind_number kind < 256
    kind_fits IsIn = omega arith
    kind_fits kind = omega arith

-- the head of a report before its checksum is taken
abbrev report_head : Family → ℕ → List ℕ
report_head family count = report_type family ∷ 0 ∷ 0 ∷ 0 ∷ 0 ∷ 0 ∷ big_bytes 2 count

AreOctets-head : (family : Family) (count : ℕ) → AreOctets (report_head family count)
AreOctets-head Igmp count = AreOctets-from_each (report_head Igmp count) (search rules)
AreOctets-head Mld count = AreOctets-from_each (report_head Mld count) (search rules)

AreOctets-report : (family : Family) (records : List Record) → AreOctets (report_with_sum 0 family records)
AreOctets-report family records =
    AreOctets-append (report_head family (length records)) (flat_map written_record records) (AreOctets-head family (length records))
    (AreOctets-flat_map written_record AreOctets-record records)

-- ---- the addresses of a datagram are what their octets carry

-- the low part of an address, which is all that its octets have
abbrev low : Ip → Ip
low (V4 number) = V4 (number % 256 ^ 4)
low (V6 number) = V6 (number % 256 ^ 16)

big_bytes-low : (octets number : ℕ) → big_bytes octets (number % 256 ^ octets) ≡ big_bytes octets number
big_bytes-low octets number =
    let bytes = big_bytes octets number in
    let read = sym (big_from-bytes octets number []) ∙ ap (λ (xs : List ℕ). big_from 0 octets xs) (append-nil bytes) in
    ap (big_bytes octets) read ∙ bytes_high_first-big_from octets bytes (length-bytes_high_first octets number) (AreOctets-bytes_high_first octets number)

report_datagram-low : (source : Ip) (records : List Record) → report_datagram (low source) records ≡ report_datagram source records
unfolding report_datagram written_inner4 written_inner6 pseudo_header
report_datagram-low (V4 source) records =
    let payload = written_report Igmp [] records in
    let header : List ℕ → ℕ → List ℕ = λ octets sum.
    0x46 ∷ 0xc0 ∷ big_bytes 2 (24 + length payload)
    ++ 0 ∷ 0 ∷ 0 ∷ 0 ∷ []
    ++ 1 ∷ 2 ∷ big_bytes 2 sum
    ++ octets
    ++ big_bytes 4 igmp_routers
    ++ 0x94 ∷ 4 ∷ 0 ∷ 0 ∷ [] in
    ap (λ (octets : List ℕ). header octets (internet_sum_of (header octets 0)) ++ payload) (big_bytes-low 4 source)
report_datagram-low (V6 source) records =
    let payload : List ℕ → List ℕ = λ octets. written_report Mld (octets ++ big_bytes 16 mld_routers ++ big_bytes 4 (report_length Mld records) ++ 0 ∷ 0 ∷ 0 ∷ 58 ∷ []) records in
    let headers : List ℕ → List ℕ = λ octets.
    0x60 ∷ 0 ∷ 0 ∷ 0 ∷ big_bytes 2 (8 + length (payload octets)) ++ 0 ∷ 1 ∷ octets ++ big_bytes 16 mld_routers ++ hop_by_hop_header in
    ap (λ (octets : List ℕ). headers octets ++ payload octets) (big_bytes-low 16 source)

-- ---- the report in its datagram

module _ (family : Family) (records : List Record) (of_family : All (IsOfFamily family) records) (fit : All HasFittingAddresses records) (short : report_length family records ≤ 1400) where
  -- the report after any even number of octets
  after : (before : List ℕ) → length before % 2 ≡ 0 → AreOctets before → IsReport family before records (written_report family before records)
  after before even small =
      IsReport-written_report family before records even (AreOctets-append before (report_with_sum 0 family records) small (AreOctets-report family records)) of_family fit short

lawful : (family : Family) (source : Ip) (records : List Record) → is_of_family family source ≡ true → FitsOctets source → All (IsOfFamily family) records
    → All HasFittingAddresses records → report_length family records ≤ 1400 → IsLawful (report_datagram source records) records
unfolding report_datagram
lawful Igmp (V4 source) records own small of_family fit short =
    let payload = written_report Igmp [] records in
    let size = length-written_report Igmp [] records of_family in
    record {
      source = V4 source;
      destination = V4 igmp_routers;
      payload = payload;
      datagram = IsInner4-written_inner4 source igmp_routers payload small (omega arith) (omega arith);
      report = after Igmp records of_family fit short [] refl (λ k. omega arith);
    }
lawful Mld (V6 source) records own small of_family fit short =
    let before = pseudo_header source mld_routers (report_length Mld records) in
    let payload = written_report Mld before records in
    let size = length-written_report Mld before records of_family in
    record {
      source = V6 source;
      destination = V6 mld_routers;
      payload = payload;
      datagram = IsInner6-written_inner6 source mld_routers payload small (omega arith) (omega arith);
      report = subst (λ (octets : ℕ). IsReport Mld (pseudo_header source mld_routers octets) records payload) (sym size)
          (after Mld records of_family fit short before (even-pseudo_header source mld_routers (report_length Mld records)) (AreOctets-pseudo_header source mld_routers (report_length Mld records)));
    }
lawful Igmp (V6 source) records own small of_family fit short = absurd cc
lawful Mld (V4 source) records own small of_family fit short = absurd cc

low-of : (family : Family) (source : Ip) → is_of_family family source ≡ true → (is_of_family family (low source) ≡ true) × FitsOctets (low source)
low-of Igmp (V4 source) own = (refl, mod-lt source (omega arith))
low-of Mld (V6 source) own = (refl, mod-lt source (omega arith))
low-of Igmp (V6 source) own = cc
low-of Mld (V4 source) own = cc

-- what a gateway writes is read as its records
pub report_in-report_datagram : (family : Family) (source : Ip) (records : List Record) → is_of_family family source ≡ true → All (IsOfFamily family) records
    → All HasFittingAddresses records → report_length family records ≤ 1400 → report_in (report_datagram source records) ≡ Ok records
report_in-report_datagram family source records own of_family fit short =
    let is = low-of family source own in
    ap report_in (sym (report_datagram-low source records))
    ∙ report_in-lawful (report_datagram (low source) records) records (lawful family (low source) records is.0 is.1 of_family fit short)
