-- Our grammar of IPv6 addresses is std's, but for the dotted tail.
use Rattle.std.proofs.{Common.{◌≡◌, ◌≢◌, ℕ, zero, ◌+◌, ◌-◌, ◌≤◌, ◌⊎◌, inl, inr, Bool, true, false, List, [], ◌∷◌, ◌++◌, length, replicate, codes, decimal, refl, sym, ap, ◌∙◌, subst, arith, rules, append_assoc, length-append}, lemmas.List.{append-nil, length-replicate}}
use Rattle.std.{proofs.lemmas.List.Elements.{All-nil, All-cons, All-append, All-from_recursion}, specs.{Char.{digit_value}, List.{AllZip, AllByRecursion, join_with_byte}, Net.Grammar.{IsDotted, IsGroup, IsGroupsAfter, IsGroups, IsColonHex, IsElided as IsElidedInStd}, Str.Parse.{AllDigits}}}
use Rattle.amt_values.{specs.Segments.{IsSegmentsText, IsElided}, proofs.Cuts.{Lacks, Lacks-parts, not_lacking}}

-- what stands after a piece
abbrev pub after_piece : List (List ℕ) → List ℕ
after_piece [] = []
after_piece (p ∷ pieces) = 58 ∷ join_with_byte 58 (p ∷ pieces)

pub join-cons : (p : List ℕ) (pieces : List (List ℕ)) → join_with_byte 58 (p ∷ pieces) ≡ p ++ after_piece pieces
join-cons p [] = sym (append-nil p)
join-cons p (q ∷ pieces) = refl

to_after : (ipv4 : Bool) (pieces : List (List ℕ)) (groups : List ℕ) → AllZip IsGroup pieces groups
    → IsGroupsAfter ipv4 (codes ":") (after_piece pieces) groups
to_after ipv4 [] [] h = refl
to_after ipv4 [] (g ∷ groups) h = absurd h
to_after ipv4 (p ∷ pieces) [] h = absurd h
to_after ipv4 (p ∷ pieces) (g ∷ groups) h =
    inl (p, after_piece pieces, ap (λ (t : List ℕ). 58 ∷ t) (join-cons p pieces), h.0, to_after ipv4 pieces groups h.1)

pieces_to_std : (ipv4 : Bool) (text : List ℕ) (pieces : List (List ℕ)) (groups : List ℕ) → text ≡ join_with_byte 58 pieces
    → AllZip IsGroup pieces groups → IsGroups ipv4 text groups
pieces_to_std ipv4 text [] [] same h = same
pieces_to_std ipv4 text [] (g ∷ groups) same h = absurd h
pieces_to_std ipv4 text (p ∷ pieces) [] same h = absurd h
pieces_to_std ipv4 text (p ∷ pieces) (g ∷ groups) same h =
    inl (p, after_piece pieces, same ∙ join-cons p pieces, h.0, to_after ipv4 pieces groups h.1)

to_std : (ipv4 : Bool) (groups text : List ℕ) → IsSegmentsText groups text → IsGroups ipv4 text groups
to_std ipv4 groups text h = pieces_to_std ipv4 text h.0 groups h.1 h.2

-- a dotted text has a dot
pub dotted_not_lacking : (lead text last octets : List ℕ) → text ≡ lead ++ last → IsDotted last octets → Lacks 46 text → ⊥
dotted_not_lacking lead text last octets spelled dotted lacks =
    let parts = Lacks-parts 46 lead last (subst (Lacks 46) spelled lacks) in
    let after = decimal dotted.b ++ (codes "." ++ (decimal dotted.c ++ (codes "." ++ decimal dotted.d))) in
    let cut : last ≡ decimal dotted.a ++ 46 ∷ after = dotted.spelled ∙ simp append_assoc in
    not_lacking 46 last (decimal dotted.a) after parts.1 cut

-- the pieces of groups in which no IPv4 address stands
record ArePieces (groups rest : List ℕ) : Type 0 where
  pieces : List (List ℕ)
  spelled : rest ≡ after_piece pieces
  each : AllZip IsGroup pieces groups

from_after : (ipv4 : Bool) (groups text : List ℕ) → Lacks 46 text → IsGroupsAfter ipv4 (codes ":") text groups → ArePieces groups text
from_after ipv4 [] text lacks h = record { pieces = []; spelled = h; each = tt }
from_after ipv4 (g ∷ groups) text lacks (inl h) =
    let p = h.0 in
    let rest = h.1 in
    let parts = Lacks-parts 46 (58 ∷ p) rest (subst (Lacks 46) h.2 lacks) in
    let later = from_after ipv4 groups rest parts.1 h.4 in
    record {
      pieces = p ∷ later.pieces;
      spelled = h.2 ∙ (ap (λ (t : List ℕ). 58 ∷ (p ++ t)) later.spelled ∙ ap (λ (t : List ℕ). 58 ∷ t) (sym (join-cons p later.pieces)));
      each = (h.3, later.each);
    }
from_after ipv4 (g ∷ groups) text lacks (inr h) = absurd (dotted_not_lacking (codes ":") text h.0 h.1 h.3 h.4 lacks)

from_std : (ipv4 : Bool) (groups text : List ℕ) → Lacks 46 text → IsGroups ipv4 text groups → IsSegmentsText groups text
from_std ipv4 [] text lacks h = ([], h, tt)
from_std ipv4 (g ∷ groups) text lacks (inl h) =
    let p = h.0 in
    let rest = h.1 in
    let parts = Lacks-parts 46 p rest (subst (Lacks 46) h.2 lacks) in
    let later = from_after ipv4 groups rest parts.1 h.4 in
    (p ∷ later.pieces, h.2 ∙ (ap (λ (t : List ℕ). p ++ t) later.spelled ∙ sym (join-cons p later.pieces)), (h.3, later.each))
from_std ipv4 (g ∷ groups) text lacks (inr h) = absurd (dotted_not_lacking [] text h.0 h.1 h.3 h.4 lacks)

-- the lengths on both sides and of the zeros make eight
zero_groups : (groups head tail : List ℕ) (zeros : ℕ) → length groups ≡ 8 → groups ≡ head ++ (replicate zeros 0 ++ tail)
    → length head + (zeros + length tail) ≡ 8
zero_groups groups head tail zeros eight value =
    let front = length-append head (replicate zeros 0 ++ tail) in
    let back = length-append (replicate zeros 0) tail in
    let middle = length-replicate zeros (zero) in
    let whole = ap (λ (xs : List ℕ). length xs) value in
    omega (arith, front, back, middle, whole, eight)

elided_to_std : (groups text : List ℕ) → length groups ≡ 8 → IsElided groups text → IsElidedInStd text groups
elided_to_std groups text eight h =
    let sizes = zero_groups groups h.head h.tail h.zeros eight h.value in
    let gap : 8 - length h.head - length h.tail ≡ h.zeros = omega (arith, sizes) in
    record {
      head_text = h.head_text;
      tail_text = h.tail_text;
      head = h.head;
      tail = h.tail;
      spelled = h.spelled ∙ sym (append_assoc h.head_text (codes "::") h.tail_text);
      head_groups = to_std false h.head h.head_text h.head_segments;
      tail_groups = to_std true h.tail h.tail_text h.tail_segments;
      room = omega (arith, sizes, h.some);
      value = rw gap (h.value ∙ sym (append_assoc h.head (replicate h.zeros 0) h.tail));
    }

pub IsColonHex-from_groups : (groups text : List ℕ) → length groups ≡ 8 → IsSegmentsText groups text ⊎ IsElided groups text → IsColonHex text groups
IsColonHex-from_groups groups text eight (inl all) = inl (to_std true groups text all, eight)
IsColonHex-from_groups groups text eight (inr elided) = inr (elided_to_std groups text eight elided)

elided_from_std : (groups text : List ℕ) → Lacks 46 text → IsElidedInStd text groups → IsElided groups text
elided_from_std groups text lacks h =
    let spelled = h.spelled ∙ append_assoc h.head_text (codes "::") h.tail_text in
    let parts = Lacks-parts 46 h.head_text (codes "::" ++ h.tail_text) (subst (Lacks 46) spelled lacks) in
    let last = Lacks-parts 46 (codes "::") h.tail_text parts.1 in
    record {
      head = h.head;
      zeros = 8 - length h.head - length h.tail;
      tail = h.tail;
      value = h.value ∙ append_assoc h.head (replicate (8 - length h.head - length h.tail) 0) h.tail;
      some = omega (arith, h.room);
      head_text = h.head_text;
      tail_text = h.tail_text;
      spelled = spelled;
      head_segments = from_std false h.head h.head_text parts.0 h.head_groups;
      tail_segments = from_std true h.tail h.tail_text last.1 h.tail_groups;
    }

pub groups_from_IsColonHex : (groups text : List ℕ) → Lacks 46 text → IsColonHex text groups → IsSegmentsText groups text ⊎ IsElided groups text
groups_from_IsColonHex groups text lacks (inl all) = inl (from_std true groups text lacks all.0)
groups_from_IsColonHex groups text lacks (inr elided) = inr (elided_from_std groups text lacks elided)

-- an octet that is neither a colon nor a hexadecimal digit
record IsForeign (at : ℕ) : Type 0 where
  no_digit : 16 ≤ digit_value at
  no_colon : at ≢ 58

digits_lack : (at : ℕ) (text : List ℕ) → IsForeign at → AllDigits 16 text → AllByRecursion (λ octet. octet ≢ at) text
digits_lack at [] foreign digits = search rules
digits_lack at (c ∷ text) foreign digits =
    (λ same. let value = ap digit_value same in omega (arith, value, digits.0, foreign.no_digit), digits_lack at text foreign digits.1)

Lacks-group : (at : ℕ) (p : List ℕ) (g : ℕ) → IsForeign at → IsGroup p g → Lacks at p
Lacks-group at p g foreign group = All-from_recursion (λ octet. octet ≢ at) p (digits_lack at p foreign group.0.0.1)

Lacks-after : (at : ℕ) (pieces : List (List ℕ)) (groups : List ℕ) → IsForeign at → AllZip IsGroup pieces groups → Lacks at (after_piece pieces)
Lacks-after at [] groups foreign h = All-nil (λ octet. octet ≢ at)
Lacks-after at (p ∷ pieces) [] foreign h = absurd h
Lacks-after at (p ∷ pieces) (g ∷ groups) foreign h =
    let both = All-append (λ octet. octet ≢ at) p (after_piece pieces) (Lacks-group at p g foreign h.0) (Lacks-after at pieces groups foreign h.1) in
    let joined = subst (Lacks at) (sym (join-cons p pieces)) both in
    All-cons (λ octet. octet ≢ at) 58 (join_with_byte 58 (p ∷ pieces)) (λ same. foreign.no_colon (sym same)) joined

Lacks-joined : (at : ℕ) (pieces : List (List ℕ)) (groups : List ℕ) → IsForeign at → AllZip IsGroup pieces groups → Lacks at (join_with_byte 58 pieces)
Lacks-joined at [] groups foreign h = All-nil (λ octet. octet ≢ at)
Lacks-joined at (p ∷ pieces) groups foreign h = (Lacks-parts at (codes ":") (join_with_byte 58 (p ∷ pieces)) (Lacks-after at (p ∷ pieces) groups foreign h)).1

Lacks-groups : (at : ℕ) (groups text : List ℕ) → IsForeign at → IsSegmentsText groups text → Lacks at text
Lacks-groups at groups text foreign h = subst (Lacks at) (sym h.1) (Lacks-joined at h.0 groups foreign h.2)

Lacks-elided : (at : ℕ) (groups text : List ℕ) → IsForeign at → IsElided groups text → Lacks at text
Lacks-elided at groups text foreign h =
    let P : ℕ → Type 0 = λ (octet : ℕ). octet ≢ at in
    let other : 58 ≢ at = λ same. foreign.no_colon (sym same) in
    let front = Lacks-groups at h.head h.head_text foreign h.head_segments in
    let back = Lacks-groups at h.tail h.tail_text foreign h.tail_segments in
    let colons = All-cons P 58 (58 ∷ h.tail_text) other (All-cons P 58 h.tail_text other back) in
    subst (Lacks at) (sym h.spelled) (All-append P h.head_text (58 ∷ 58 ∷ h.tail_text) front colons)

-- an IPv6 address has only colons and hexadecimal digits
pub Lacks-v6 : (at : ℕ) (groups text : List ℕ) → 16 ≤ digit_value at → at ≢ 58 → IsSegmentsText groups text ⊎ IsElided groups text → Lacks at text
Lacks-v6 at groups text no_digit no_colon (inl all) =
    Lacks-groups at groups text (record { no_digit = no_digit; no_colon = no_colon }) all
Lacks-v6 at groups text no_digit no_colon (inr elided) =
    Lacks-elided at groups text (record { no_digit = no_digit; no_colon = no_colon }) elided
