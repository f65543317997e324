-- The labels of reverse names, one after another.
use Rattle.std.proofs.{Common.{◌≡◌, ℕ, ◌+◌, ◌<◌, ◌≤◌, [], ◌∷◌, ◌++◌, length, refl, decimal, add-one, arith}, lemmas.Fmt.{decimal_nonempty, length-decimal-le}}
use Rattle.amt_dns_names.specs.{Name.{IsLabel}, Reverse.{digit_above, digit_labels, digit_octet, octet_above, octet_labels}}

pub octet_labels-more : (number count : ℕ) → octet_labels number (count + 1) ≡ octet_labels number count ++ decimal (octet_above number count) ∷ []
unfolding octet_labels
octet_labels-more number count = rw add-one refl

pub digit_labels-more : (number count : ℕ) → digit_labels number (count + 1) ≡ digit_labels number count ++ (digit_octet (digit_above number count) ∷ []) ∷ []
unfolding digit_labels
digit_labels-more number count = rw add-one refl

pub octet_labels-none : (number : ℕ) → octet_labels number 0 ≡ []
unfolding octet_labels
octet_labels-none number = refl

pub digit_labels-none : (number : ℕ) → digit_labels number 0 ≡ []
unfolding digit_labels
digit_labels-none number = refl

-- the decimal digits of an octet are a label of three octets at most
pub decimal-octet : (octet : ℕ) → octet < 256 → (IsLabel (decimal octet)) × (length (decimal octet) ≤ 3)
decimal-octet octet small =
    let some = decimal_nonempty octet (omega arith) in
    let few = length-decimal-le 3 octet (omega arith) (omega arith) (omega arith) in
    (record { some = omega arith; most = omega arith }, few)

pub ruleset octet_steps = (octet_labels-more, octet_labels-none, decimal-octet)

pub ruleset digit_steps = (digit_labels-more, digit_labels-none)
