-- The length that an inner datagram states is in its first octets.
use Rattle.std.proofs.{Common.{◌≡◌, ℕ, zero, suc, ◌+◌, ◌<◌, ◌≤◌, List, [], ◌∷◌, length, take, drop, Some, None, refl, arith}, lemmas.{Bool.{le-ltb}, List.{drop_all, length-take-le, get_or-take}}}
use Rattle.byteorder.specs.{Numbers.{big_from-take}, Endian.{big_number}}
use Rattle.amt_messages.specs.{StatedLength.{inner_length_of}, Refusal.{stated_inner}}

-- two octets from a place on are those of a prefix that reaches past them
number_in_prefix : (n place : ℕ) (octets : List ℕ) → place + 2 ≤ n → big_number 2 (drop place (take n octets)) ≡ big_number 2 (drop place octets)
number_in_prefix n zero octets far = big_from-take 0 2 n octets (omega arith)
number_in_prefix zero (suc place) octets far = absurd (omega arith)
number_in_prefix (suc n) (suc place) [] far = refl
number_in_prefix (suc n) (suc place) (x ∷ octets) far = number_in_prefix n place octets (omega arith)

-- a datagram that states its length is no shorter than the least header
pub inner_length_of-least : (octets : List ℕ) (n : ℕ) → inner_length_of octets ≡ Some n → 20 ≤ n
unfolding inner_length_of
inner_length_of-least octets n states = grind arith

-- so a prefix of six octets and more states the same length
pub inner_length_of-take : (n : ℕ) (octets : List ℕ) → 6 ≤ n → n ≤ length octets → inner_length_of (take n octets) ≡ inner_length_of octets
unfolding inner_length_of
inner_length_of-take n octets far enough =
    let len = length-take-le n octets enough in
    let first = get_or-take n octets 0 0 (omega arith) in
    let total = number_in_prefix n 2 octets (omega arith) in
    let payload = number_in_prefix n 4 octets (omega arith) in
    let four_there = le-ltb (length octets) 4 (omega arith) in
    let four_here = le-ltb n 4 (omega arith) in
    let six_there = le-ltb (length octets) 6 (omega arith) in
    let six_here = le-ltb n 6 far in
    rw (len, first, total, payload, four_there, four_here, six_there, six_here) refl

-- after less than a head no length is stated
pub short_states_none : (bytes : List ℕ) → length bytes < 12 → stated_inner bytes ≡ None
unfolding inner_length_of
short_states_none bytes short = rw (drop_all 12 bytes (omega arith)) refl
