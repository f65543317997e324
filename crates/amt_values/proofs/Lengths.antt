-- How long a printed IPv6 address is.
use Rattle.std.proofs.Common.{◌≡◌, ℕ, suc, ◌+◌, ◌*◌, ◌-◌, ◌^◌, ◌<◌, ◌≤◌, inl, inr, List, [], ◌∷◌, ◌++◌, length, take, drop, codes, ap, arith, length-append, length-take-le, length-drop}
use Rattle.std.{proofs.{NetLemmas.Texts.{AllSegments, AllSegments-take, AllSegments-drop, IsZeroRun-longest_zero_run}, lemmas.Bool.{cases_lt}}, specs.Net.Text.{hex, groups_text, longest_zero_run, hex_groups_text}}
use Rattle.amt_values.{specs.{Segments.{address_segments}, Text.{v6_text}}, proofs.{Printed.{text_after_colons, shortened_text, long_text, plain_text}, Segments.{AllSegments-address_segments, length-address_segments}, ShortGroups.{IsShortGroup-hex}}}

length-hex : (group : ℕ) → group < 2 ^ 16 → length (hex group) ≤ 4
length-hex group fits = (IsShortGroup-hex group fits).writes.1

length-text_after_colons : (groups : List ℕ) → AllSegments groups → length (text_after_colons groups) ≤ 5 * length groups
length-text_after_colons [] fits = omega arith
length-text_after_colons (g ∷ groups) fits =
    let rest = length-text_after_colons groups (λ k. fits (suc k)) in
    let whole = length-append (58 ∷ hex g) (text_after_colons groups) in
    omega (arith, whole, rest, length-hex g (fits 0))

-- no colon stands before the first group
length-segments_text : (groups : List ℕ) → AllSegments groups → length (groups_text groups) ≤ 5 * length groups - 1
length-segments_text [] fits = omega arith
length-segments_text (g ∷ groups) fits =
    let rest = length-text_after_colons groups (λ k. fits (suc k)) in
    let whole = length-append (hex g) (text_after_colons groups) in
    omega (arith, whole, rest, length-hex g (fits 0))

length-shortened : (groups : List ℕ) (start count : ℕ) → AllSegments groups → length groups ≡ 8 → start + count ≤ 8 → 2 ≤ count
    → length (shortened_text groups start count) ≤ 39
length-shortened groups start count fits eight within two =
    let head = take start groups in
    let tail = drop (start + count) groups in
    let front = length-segments_text head (AllSegments-take start groups fits) in
    let back = length-segments_text tail (AllSegments-drop (start + count) groups fits) in
    let before : length head ≡ start = length-take-le start groups (omega arith) in
    let after = length-drop (start + count) groups in
    let whole = length-append (groups_text head) (codes "::" ++ groups_text tail) in
    omega (arith, front, back, before, after, whole)

length-hex_groups_text : (groups : List ℕ) → AllSegments groups → length groups ≡ 8 → length (hex_groups_text groups) ≤ 39
length-hex_groups_text groups fits eight =
    let start = (longest_zero_run groups).0 in
    let count = (longest_zero_run groups).1 in
    let run = IsZeroRun-longest_zero_run groups in
    elim (cases_lt 1 count) [
      | inl long ↦
          let shortened = length-shortened groups start count fits eight (omega (arith, run.0, eight)) long in
          omega (arith, ap (λ (text : List ℕ). length text) (long_text groups long), shortened)
      | inr short ↦
          let plain = length-segments_text groups fits in
          omega (arith, ap (λ (text : List ℕ). length text) (plain_text groups short), plain, eight)
    ]

pub length-v6_text : (number : ℕ) → length (v6_text number) ≤ 39
length-v6_text number = length-hex_groups_text (address_segments number) (AllSegments-address_segments number) (length-address_segments number)
