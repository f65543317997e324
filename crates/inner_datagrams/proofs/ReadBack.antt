-- A written datagram is read suffix.
use Rattle.std.proofs.Common.{◌≡◌, ℕ, ◌+◌, ◌^◌, ◌<◌, ◌≤◌, List, [], ◌∷◌, ◌++◌, length, drop, inr, refl, sym, subst, ap, ◌∙◌, arith, rules}
use Rattle.byteorder.specs.{Endian.{big_bytes}, Numbers.{big_number-reads_back}}
use Rattle.amt_values.specs.{declared.address.Ip.{Ip, TheVariants.{V4, V6}}, Octets.{AreOctets}}
use Rattle.inner_datagrams.{specs.{Checksum.{IsRight}, Inner.{IsInner, IsInner4, IsInner6}, Reading.{payload_start}, Written.{header4_with_sum, header4, written_inner4, written_inner6, IsWrittenInner, written_headers}}, proofs.{Octets.{AreOctets-from_each}, RightSum.{IsRight-filled}}}

-- what stands before the checksum of a header, and after it
abbrev before_sum : ℕ → List ℕ
before_sum total_length = 0x46 ∷ 0xc0 ∷ big_bytes 2 total_length ++ 0 ∷ 0 ∷ 0 ∷ 0 ∷ [] ++ 1 ∷ 2 ∷ []

abbrev after_sum : ℕ → ℕ → List ℕ
after_sum source destination = big_bytes 4 source ++ big_bytes 4 destination ++ 0x94 ∷ 4 ∷ 0 ∷ 0 ∷ []

AreOctets-header4_with_sum : (total_length source destination : ℕ) → AreOctets (header4_with_sum 0 total_length source destination)
AreOctets-header4_with_sum total_length source destination =
    AreOctets-from_each (header4_with_sum 0 total_length source destination) (search rules)

IsRight-header4 : (total_length source destination : ℕ) → IsRight (header4 total_length source destination)
IsRight-header4 total_length source destination =
    IsRight-filled (before_sum total_length) (after_sum source destination) 5 refl (AreOctets-header4_with_sum total_length source destination)

-- each field of a written IPv4 datagram stands at its place
pub IsInner4-written_inner4 : (source destination : ℕ) (payload : List ℕ) → source < 2 ^ 32 → destination < 2 ^ 32 → length payload ≤ 60000
    → IsInner4 source destination payload (written_inner4 source destination payload)
unfolding written_inner4
IsInner4-written_inner4 source destination payload source_fits destination_fits short =
    let bytes = written_inner4 source destination payload in record {
      version = refl;
      least_header = omega arith;
      whole_header = omega arith;
      whole_datagram = big_number-reads_back 2 (24 + length payload) (drop 4 bytes) (omega arith) ∙ omega arith;
      right_header = IsRight-header4 (24 + length payload) source destination;
      no_fragment = refl;
      protocol = refl;
      comes_from = big_number-reads_back 4 source (drop 16 bytes) source_fits;
      goes_to = big_number-reads_back 4 destination (drop 20 bytes) destination_fits;
      carries = refl;
    }

-- each field of a written IPv6 datagram stands at its place
pub IsInner6-written_inner6 : (source destination : ℕ) (payload : List ℕ) → source < 2 ^ 128 → destination < 2 ^ 128 → length payload ≤ 60000
    → IsInner6 source destination payload (written_inner6 source destination payload)
unfolding written_inner6
IsInner6-written_inner6 source destination payload source_fits destination_fits short =
    let bytes = written_inner6 source destination payload in record {
      version = refl;
      whole_header = omega arith;
      whole_datagram = ap (λ (n : ℕ). 40 + n) (big_number-reads_back 2 (8 + length payload) (drop 6 bytes) (omega arith)) ∙ omega arith;
      comes_from = big_number-reads_back 16 source (drop 24 bytes) source_fits;
      goes_to = big_number-reads_back 16 destination (drop 40 bytes) destination_fits;
      follows = inr (record { announced = refl; whole_options = omega arith; protocol = refl; carries = refl });
    }

-- what is written is an inner datagram of the same parts
pub IsInner-written : (source destination : Ip) (payload bytes : List ℕ) → length payload ≤ 60000 → IsWrittenInner source destination payload bytes
    → IsInner source destination payload bytes
IsInner-written (V4 source) (V4 destination) payload bytes short h =
    subst (IsInner4 source destination payload) (sym h.2) (IsInner4-written_inner4 source destination payload h.0 h.1 short)
IsInner-written (V6 source) (V6 destination) payload bytes short h =
    subst (IsInner6 source destination payload) (sym h.2) (IsInner6-written_inner6 source destination payload h.0 h.1 short)
IsInner-written (V4 source) (V6 destination) payload bytes short h = absurd h
IsInner-written (V6 source) (V4 destination) payload bytes short h = absurd h

start4 : (source destination : ℕ) (payload : List ℕ) → payload_start (written_inner4 source destination payload) ≡ 24
unfolding written_inner4
start4 source destination payload = refl

start6 : (source destination : ℕ) (payload : List ℕ) → payload_start (written_inner6 source destination payload) ≡ 48
unfolding written_inner6
start6 source destination payload = refl

-- the payload that is written begins after the headers that are written
pub payload_start-written : (source destination : Ip) (payload bytes : List ℕ) → IsWrittenInner source destination payload bytes
    → payload_start bytes ≡ written_headers source
payload_start-written (V4 source) (V4 destination) payload bytes h = ap payload_start h.2 ∙ start4 source destination payload
payload_start-written (V6 source) (V6 destination) payload bytes h = ap payload_start h.2 ∙ start6 source destination payload
payload_start-written (V4 source) (V6 destination) payload bytes h = absurd h
payload_start-written (V6 source) (V4 destination) payload bytes h = absurd h
