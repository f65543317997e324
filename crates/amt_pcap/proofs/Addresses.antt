-- A printed address is a word of a line.
use Rattle.std.{proofs.{Common.{◌≡◌, ℕ, ◌+◌, ◌<◌, ◌≤◌, List, [], ◌∷◌, ◌++◌, length, take, drop, codes, decimal, inl, inr, ap, subst, length-append, arith}, Math.Seq.{take-append_seam}, NetLemmas.Texts.{AllSegments}, lemmas.{Bool.{cases_lt}, List.Elements.{All-tail, All-take}}}, specs.Net.Text.{dotted_text, groups_text, hex, hex_groups_text, longest_zero_run}}
use Rattle.amt_values.{specs.{declared.address.Ip.{Ip, TheVariants.{V4, V6}}, Segments.{address_segments}, Text.{IsIpText, ip_text, v4_text, v6_text}}, proofs.{Printed.{text_after_colons, long_text, plain_text}, Segments.{AllSegments-address_segments, length-address_segments}, ShortGroups.{IsShortGroup-hex}}}
use Rattle.script_lines.proofs.{Glyphs.{IsGlyph, AreGlyphs}, Peers.{glyphs_of_peer, peer_length}, Words.{IsWordOf}}

dotted_some : (a b c d : ℕ) → 0 < length (dotted_text a b c d)
dotted_some a b c d =
    let before = (((decimal a ++ 46 ∷ []) ++ decimal b) ++ 46 ∷ []) ++ decimal c in
    omega (arith, length-append before (46 ∷ []), length-append (before ++ 46 ∷ []) (decimal d))

groups_some : (groups : List ℕ) → AllSegments groups → length groups ≡ 8 → 0 < length (groups_text groups)
groups_some [] fits eight = absurd (omega (arith, eight))
groups_some (g ∷ groups) fits eight =
    omega (arith, length-append (hex g) (text_after_colons groups), (IsShortGroup-hex g (fits 0)).writes.0)

hex_groups_some : (groups : List ℕ) → AllSegments groups → length groups ≡ 8 → 0 < length (hex_groups_text groups)
hex_groups_some groups fits eight =
    let start = (longest_zero_run groups).0 in
    let count = (longest_zero_run groups).1 in
    elim (cases_lt 1 count) [
      | inl long ↦
          let whole = length-append (groups_text (take start groups)) (codes "::" ++ groups_text (drop (start + count) groups)) in
          omega (arith, ap (λ (text : List ℕ). length text) (long_text groups long), whole)
      | inr short ↦ omega (arith, ap (λ (text : List ℕ). length text) (plain_text groups short), groups_some groups fits eight)
    ]

ip_some : (ip : Ip) → 0 < length (ip_text ip)
ip_some (V4 number) = dotted_some _ _ _ _
ip_some (V6 number) = hex_groups_some (address_segments number) (AllSegments-address_segments number) (length-address_segments number)

glyphs_before : (text rest : List ℕ) → AreGlyphs (text ++ rest) → AreGlyphs text
glyphs_before text rest glyphs = subst AreGlyphs (take-append_seam text rest) (All-take IsGlyph (length text) (text ++ rest) glyphs)

glyphs_of_ip : (ip : Ip) → AreGlyphs (ip_text ip)
glyphs_of_ip (V4 number) = glyphs_before (v4_text number) (codes ":" ++ decimal 0) (glyphs_of_peer (V4 number) 0 (omega arith))
glyphs_of_ip (V6 number) =
    let rest = codes "]:" ++ decimal 0 in
    glyphs_before (v6_text number) rest (All-tail IsGlyph 91 (v6_text number ++ rest) (glyphs_of_peer (V6 number) 0 (omega arith)))

pub ip_length : (ip : Ip) → length (ip_text ip) ≤ 47
ip_length (V4 number) = omega (arith, peer_length (V4 number) 0 (omega arith), length-append (v4_text number) (codes ":" ++ decimal 0))
ip_length (V6 number) = omega (arith, peer_length (V6 number) 0 (omega arith), length-append (v6_text number) (codes "]:" ++ decimal 0))

pub ip_word : (ip : Ip) → IsIpText ip (ip_text ip) → IsWordOf (IsIpText ip) (ip_text ip)
ip_word ip names = record { names = names; glyphs = glyphs_of_ip ip; some = ip_some ip }
