-- IPv4: bytes have no fault after their version exactly where they are an inner datagram.
use Rattle.std.proofs.{Common.{◌≡◌, ℕ, List, length, ltb, false, None, refl, sym, arith}, lemmas.Bool.{le-ltb, ltb-false}}
use Rattle.amt_values.{specs.{Conditions.{first_holding}, IpHeader.{ip_version}}, proofs.ConditionLaws.{NoneHolds-of, first_holding-none, holds_not, skips_same}}
use Rattle.inner_datagrams.{specs.{Header.{header_octets, source_number, destination_number}, Inner.{IsInner4}, Fault.{faults4}, Reading.{payload_of}}, proofs.Payloads.{payload_whole}}

pub inner4_of_no_fault : (bytes : List ℕ) → ip_version bytes ≡ 4 → first_holding (faults4 bytes) ≡ None
    → IsInner4 (source_number bytes) (destination_number bytes) (payload_of (header_octets bytes) (length bytes) bytes) bytes
inner4_of_no_fault bytes version none =
    let all = NoneHolds-of (faults4 bytes) none in
    record {
      version = version;
      least_header = ltb-false _ _ all.1.0;
      whole_header = ltb-false _ _ all.1.1.0;
      whole_datagram = holds_not _ _ all.1.1.1.0;
      right_header = holds_not _ _ all.1.1.1.1.0;
      no_fragment = holds_not _ _ all.1.1.1.1.1.0;
      protocol = holds_not _ _ all.1.1.1.1.1.1.0;
      comes_from = refl;
      goes_to = refl;
      carries = sym (payload_whole (header_octets bytes) bytes);
    }

pub no_fault_of_inner4 : (source destination : ℕ) (payload bytes : List ℕ) → IsInner4 source destination payload bytes
    → first_holding (faults4 bytes) ≡ None
no_fault_of_inner4 source destination payload bytes h =
    let long : ltb (length bytes) 20 ≡ false = let a = h.least_header in let b = h.whole_header in le-ltb (length bytes) 20 (omega arith) in
    first_holding-none (faults4 bytes) (
      long,
      (
        le-ltb _ _ h.least_header,
        (
          le-ltb _ _ h.whole_header,
          (
            skips_same _ _ h.whole_datagram,
            (skips_same _ _ h.right_header, (skips_same _ _ h.no_fragment, (skips_same _ _ h.protocol, tt))),
          ),
        ),
      ),
    )
