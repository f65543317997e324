-- IPv6: bytes have no fault after their version exactly where they are an inner datagram.
use Rattle.std.proofs.{Common.{◌≡◌, ◌⊎◌, inl, inr, ℕ, ◌≤◌, List, length, drop, ltb, eqb, cond, Bool, true, false, ◌&&◌, None, refl, sym, arith}, lemmas.Bool.{le-ltb, ltb-false, eqb-true}}
use Rattle.amt_values.{specs.{Conditions.{first_holding}, IpHeader.{ip_version}}, proofs.ConditionLaws.{NoneHolds-of, first_holding-none, holds_not, skips_same}}
use Rattle.inner_datagrams.{specs.{Header6.{next_header, has_hop_by_hop, hop_by_hop_next, hop_by_hop_end, headers_end6, last_next_header, source_number6, destination_number6}, Inner.{FollowsHeader, FollowsHopByHop, IsInner6}, Fault.{faults6}, Reading.{payload_of}}, proofs.Payloads.{payload_whole}}

-- with a hop-by-hop header or without one, ICMPv6 follows the headers
follows_by : (hop : Bool) (payload bytes : List ℕ) → eqb (next_header bytes) 0 ≡ hop
    → (hop && ltb (length bytes) (hop_by_hop_end bytes)) ≡ false
    → cond hop (hop_by_hop_next bytes) (next_header bytes) ≡ 58
    → payload ≡ drop (cond hop (hop_by_hop_end bytes) 40) bytes
    → FollowsHeader payload bytes ⊎ FollowsHopByHop payload bytes
follows_by true payload bytes test whole kind after = inr (
    record {
      announced = eqb-true _ _ test;
      whole_options = ltb-false _ _ whole;
      protocol = kind;
      carries = sym after;
    })
follows_by false payload bytes test whole kind after = inl (record { protocol = kind; carries = sym after })

pub inner6_of_no_fault : (bytes : List ℕ) → ip_version bytes ≡ 6 → first_holding (faults6 bytes) ≡ None
    → IsInner6 (source_number6 bytes) (destination_number6 bytes) (payload_of (headers_end6 bytes) (length bytes) bytes) bytes
inner6_of_no_fault bytes version none =
    let all = NoneHolds-of (faults6 bytes) none in
    record {
      version = version;
      whole_header = ltb-false _ _ all.0;
      whole_datagram = holds_not _ _ all.1.0;
      comes_from = refl;
      goes_to = refl;
      follows = follows_by (has_hop_by_hop bytes) _ bytes refl all.1.1.1.0 (holds_not _ _ all.1.1.1.1.1.1.0) (payload_whole (headers_end6 bytes) bytes);
    }

-- where ICMPv6 follows the headers, these are there whole
pub record HasWholeHeaders (payload bytes : List ℕ) : Type 0 where
  pub least_options : (has_hop_by_hop bytes && ltb (length bytes) 48) ≡ false
  pub whole_options : (has_hop_by_hop bytes && ltb (length bytes) (hop_by_hop_end bytes)) ≡ false
  pub kind : last_next_header bytes ≡ 58
  pub within : headers_end6 bytes ≤ length bytes
  pub carries : drop (headers_end6 bytes) bytes ≡ payload

pub HasWholeHeaders-follows : (payload bytes : List ℕ) → 40 ≤ length bytes → FollowsHeader payload bytes ⊎ FollowsHopByHop payload bytes
    → HasWholeHeaders payload bytes
HasWholeHeaders-follows payload bytes header (inl h) =
    record {
      least_options = rw h.protocol refl;
      whole_options = rw h.protocol refl;
      kind = rw h.protocol refl;
      within = rw h.protocol header;
      carries = rw h.protocol h.carries;
    }
HasWholeHeaders-follows payload bytes header (inr h) =
    let end = h.whole_options in
    record {
      least_options = rw h.announced (le-ltb (length bytes) 48 (omega arith));
      whole_options = rw h.announced (le-ltb _ _ h.whole_options);
      kind = rw h.announced h.protocol;
      within = rw h.announced h.whole_options;
      carries = rw h.announced h.carries;
    }

pub no_fault_of_inner6 : (source destination : ℕ) (payload bytes : List ℕ) → IsInner6 source destination payload bytes
    → first_holding (faults6 bytes) ≡ None
no_fault_of_inner6 source destination payload bytes h =
    let after = HasWholeHeaders-follows payload bytes h.whole_header h.follows in
    first_holding-none (faults6 bytes) (
      le-ltb _ _ h.whole_header,
      (
        skips_same _ _ h.whole_datagram,
        (after.least_options, (after.whole_options, rw after.kind (refl, (refl, (refl, tt))))),
      ),
    )
