-- A message whose checksum is filled in, after its first two octets, adds up right.
use Rattle.std.proofs.Common.{◌≡◌, ℕ, ◌+◌, ◌*◌, ◌/◌, ◌%◌, List, [], ◌∷◌, ◌++◌, length, length-append, subst, arith, append_assoc}
use Rattle.byteorder.specs.Endian.{big_bytes}
use Rattle.amt_values.specs.Octets.{AreOctets}
use Rattle.inner_datagrams.{specs.Checksum.{internet_sum_of, IsRight}, proofs.RightSum.{IsRight-filled}}

pub IsRight-summed : (pseudo_header : List ℕ) (first second : ℕ) (suffix : List ℕ) → length pseudo_header % 2 ≡ 0
    → AreOctets (pseudo_header ++ first ∷ second ∷ 0 ∷ 0 ∷ suffix)
    → IsRight (pseudo_header ++ first ∷ second ∷ (big_bytes 2 (internet_sum_of (pseudo_header ++ first ∷ second ∷ 0 ∷ 0 ∷ suffix)) ++ suffix))
IsRight-summed pseudo_header first second suffix even small =
    let prefix = pseudo_header ++ first ∷ second ∷ [] in
    let blank : prefix ++ 0 ∷ 0 ∷ suffix ≡ pseudo_header ++ first ∷ second ∷ 0 ∷ 0 ∷ suffix = append_assoc pseudo_header (first ∷ second ∷ []) (0 ∷ 0 ∷ suffix) in
    let field = big_bytes 2 (internet_sum_of (pseudo_header ++ first ∷ second ∷ 0 ∷ 0 ∷ suffix)) in
    let filled : prefix ++ (field ++ suffix) ≡ pseudo_header ++ (first ∷ second ∷ (field ++ suffix)) =
    append_assoc pseudo_header (first ∷ second ∷ []) (field ++ suffix) in
    let pairs : length prefix ≡ (length pseudo_header / 2 + 1) * 2 = omega (arith, length-append pseudo_header (first ∷ second ∷ [])) in
    let right = IsRight-filled prefix suffix (length pseudo_header / 2 + 1) pairs (rw blank small) in
    let right_here : IsRight (prefix ++ (field ++ suffix)) = rw blank at right in
    subst (λ (xs : List ℕ). IsRight xs) filled right_here
