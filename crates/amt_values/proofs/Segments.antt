-- The groups of a number, and the number of eight groups.
use Rattle.std.proofs.Common.{◌≡◌, ℕ, zero, suc, ◌+◌, ◌*◌, ◌/◌, ◌%◌, ◌^◌, ◌<◌, List, [], ◌∷◌, length, refl, sym, ap, ◌∙◌, arith}
use Rattle.std.{proofs.{NetLemmas.Texts.{AllSegments}, lemmas.Nat.{div-mul-add, mod-mul-add}}, specs.{Int.{w128, bytes_high_first, from_be_bytes}, Net.Addr.{segments_of, octets_of}}}
use Rattle.byteorder.specs.Endian.{big_number}
use Rattle.amt_values.{specs.{Segments.{address_segments}, Octets.{AreOctets}}, proofs.NetworkOrder.{AreOctets-bytes_high_first, bytes_high_first-big_from, big_from-bytes_high_first}}

from_be_bytes-big : (octets : List ℕ) → from_be_bytes w128 octets ≡ big_number 16 octets
from_be_bytes-big octets = omega arith

AllSegments-segments_of : (octets : List ℕ) → AreOctets octets → AllSegments (segments_of octets)
AllSegments-segments_of [] small k = omega arith
AllSegments-segments_of (a ∷ []) small k = omega arith
AllSegments-segments_of (a ∷ b ∷ octets) small zero = omega (arith, small 0, small 1)
AllSegments-segments_of (a ∷ b ∷ octets) small (suc k) = AllSegments-segments_of octets (λ j. small (suc (suc j))) k

AreOctets-octets_of : (groups : List ℕ) → AllSegments groups → AreOctets (octets_of groups)
AreOctets-octets_of [] fits k = omega arith
AreOctets-octets_of (g ∷ groups) fits zero = omega (arith, fits 0)
AreOctets-octets_of (g ∷ groups) fits (suc zero) = omega arith
AreOctets-octets_of (g ∷ groups) fits (suc (suc k)) = AreOctets-octets_of groups (λ j. fits (suc j)) k

length-octets_of : (groups : List ℕ) → length (octets_of groups) ≡ length groups + length groups
length-octets_of [] = omega arith
length-octets_of (g ∷ groups) = omega (arith, length-octets_of groups)

segments_of-octets_of : (groups : List ℕ) → segments_of (octets_of groups) ≡ groups
segments_of-octets_of [] = refl
segments_of-octets_of (g ∷ groups) =
    let first : g / 256 * 256 + g % 256 ≡ g = omega arith in
    let rest = segments_of-octets_of groups in
    rw (first, rest) refl

octets_of-segments_of : (half : ℕ) (octets : List ℕ) → length octets ≡ half + half → AreOctets octets → octets_of (segments_of octets) ≡ octets
octets_of-segments_of zero [] len small = refl
octets_of-segments_of zero (a ∷ octets) len small = absurd (omega arith)
octets_of-segments_of (suc half) [] len small = absurd (omega arith)
octets_of-segments_of (suc half) (a ∷ []) len small = absurd (omega arith)
octets_of-segments_of (suc half) (a ∷ b ∷ octets) len small =
    let low : b < 256 = small 1 in
    let first = div-mul-add a 256 b low in
    let second = mod-mul-add a 256 b low in
    let rest = octets_of-segments_of half octets (omega arith) (λ k. small (suc (suc k))) in
    rw (first, second, rest) refl

-- the number of groups, as std's addresses give it
abbrev pub number_of_groups : List ℕ → ℕ
number_of_groups groups = from_be_bytes w128 (octets_of groups)

pub address_segments-number : (groups : List ℕ) → length groups ≡ 8 → AllSegments groups → address_segments (number_of_groups groups) ≡ groups
unfolding address_segments
address_segments-number groups eight fits =
    let octets = octets_of groups in
    let len : length octets ≡ 16 = omega (arith, length-octets_of groups) in
    let again = bytes_high_first-big_from 16 octets len (AreOctets-octets_of groups fits) in
    ap (λ (number : ℕ). segments_of (bytes_high_first 16 number)) (from_be_bytes-big octets)
    ∙ (ap segments_of again ∙ segments_of-octets_of groups)

pub number-address_segments : (number : ℕ) → number < 2 ^ 128 → number_of_groups (address_segments number) ≡ number
unfolding address_segments
number-address_segments number small =
    let octets = bytes_high_first 16 number in
    let again = octets_of-segments_of 8 octets refl (AreOctets-bytes_high_first 16 number) in
    from_be_bytes-big (octets_of (segments_of octets))
    ∙ (ap (big_number 16) again ∙ big_from-bytes_high_first 16 number (omega arith))

pub length-address_segments : (number : ℕ) → length (address_segments number) ≡ 8
unfolding address_segments
length-address_segments number = refl

pub AllSegments-address_segments : (number : ℕ) → AllSegments (address_segments number)
unfolding address_segments
AllSegments-address_segments number = AllSegments-segments_of (bytes_high_first 16 number) (AreOctets-bytes_high_first 16 number)

-- two numbers of the same groups are the same
pub address_segments-injective : (n m : ℕ) → n < 2 ^ 128 → m < 2 ^ 128 → address_segments n ≡ address_segments m → n ≡ m
address_segments-injective n m small_n small_m same =
    sym (number-address_segments n small_n) ∙ (ap number_of_groups same ∙ number-address_segments m small_m)
