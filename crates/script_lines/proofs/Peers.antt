-- What a printed peer is made of, and how long it is.
use Rattle.std.{proofs.{Common.{ℕ, ◌^◌, ◌<◌, ◌≤◌, [], ◌∷◌, ◌++◌, length, slice_index, decimal, length-append, inl, inr, arith}, lemmas.{Fmt.{length-decimal-le}, List.Elements.{All-cons, All-append, All-weaker}}, NetLemmas.Alphabet.{IsDigitOrDot, IsHexOrColon, All-ipv4_text, All-hex_groups_text}}, specs.{Int.{w32, to_be_bytes}, Net.Text.{dotted_text}}}
use Rattle.amt_values.{proofs.{NetworkOrder.{AreOctets-bytes_high_first}, Lengths.{length-v6_text}, Segments.{AllSegments-address_segments}}, specs.{declared.address.Ip.{Ip, TheVariants.{V4, V6}}, Segments.{address_segments}, Text.{v4_text, v6_text, address_and_port}}}
use Rattle.script_lines.proofs.Glyphs.{IsGlyph, AreGlyphs, glyphs_of_digits}

glyph_of_dotted : (octet : ℕ) → IsDigitOrDot octet → IsGlyph octet
glyph_of_dotted octet (inl digit) = (omega (arith, digit.0), omega (arith, digit.1))
glyph_of_dotted octet (inr dot) = (omega arith, omega arith)

glyph_of_hex : (octet : ℕ) → IsHexOrColon octet → IsGlyph octet
glyph_of_hex octet (inl digit) = (omega (arith, digit.0), omega (arith, digit.1))
glyph_of_hex octet (inr letter) = (omega (arith, letter.0), omega (arith, letter.1))

glyphs_of_v4 : (number : ℕ) → AreGlyphs (v4_text number)
glyphs_of_v4 number =
    All-weaker IsDigitOrDot IsGlyph glyph_of_dotted (v4_text number)
    (All-ipv4_text (to_be_bytes w32 number) (λ k. AreOctets-bytes_high_first 4 number k))

glyphs_of_v6 : (number : ℕ) → AreGlyphs (v6_text number)
glyphs_of_v6 number =
    All-weaker IsHexOrColon IsGlyph glyph_of_hex (v6_text number)
    (All-hex_groups_text (address_segments number) (AllSegments-address_segments number))

pub glyphs_of_peer : (ip : Ip) (port : ℕ) → port < 2 ^ 16 → AreGlyphs (address_and_port ip port)
glyphs_of_peer (V4 number) port small =
    All-append IsGlyph (v4_text number) (58 ∷ decimal port) (glyphs_of_v4 number)
    (All-cons IsGlyph 58 (decimal port) (omega arith, omega arith) (glyphs_of_digits port (omega arith)))
glyphs_of_peer (V6 number) port small =
    All-cons IsGlyph 91 (v6_text number ++ 93 ∷ 58 ∷ decimal port) (omega arith, omega arith)
    (All-append IsGlyph (v6_text number) (93 ∷ 58 ∷ decimal port) (glyphs_of_v6 number)
    (All-cons IsGlyph 93 (58 ∷ decimal port) (omega arith, omega arith)
    (All-cons IsGlyph 58 (decimal port) (omega arith, omega arith) (glyphs_of_digits port (omega arith)))))

dotted_length : (a b c d : ℕ) → a < 256 → b < 256 → c < 256 → d < 256 → length (dotted_text a b c d) ≤ 15
dotted_length a b c d small_a small_b small_c small_d =
    let one = decimal a ++ 46 ∷ [] in
    let two = one ++ decimal b ++ 46 ∷ [] in
    let three = two ++ decimal c ++ 46 ∷ [] in
    let after_one = length-append (decimal a) (46 ∷ []) in
    let before_two = length-append one (decimal b) in
    let after_two = length-append (one ++ decimal b) (46 ∷ []) in
    let before_three = length-append two (decimal c) in
    let after_three = length-append (two ++ decimal c) (46 ∷ []) in
    let before_four = length-append three (decimal d) in
    let first = length-decimal-le 3 a (omega arith) (omega (arith, small_a)) (omega (arith, small_a)) in
    let second = length-decimal-le 3 b (omega arith) (omega (arith, small_b)) (omega (arith, small_b)) in
    let third = length-decimal-le 3 c (omega arith) (omega (arith, small_c)) (omega (arith, small_c)) in
    let fourth = length-decimal-le 3 d (omega arith) (omega (arith, small_d)) (omega (arith, small_d)) in
    omega (arith, after_one, before_two, after_two, before_three, after_three, before_four, first, second, third, fourth)

v4_length : (number : ℕ) → length (v4_text number) ≤ 15
v4_length number =
    let octet : (k : ℕ) → slice_index (to_be_bytes w32 number) k < 256 = AreOctets-bytes_high_first 4 number in
    dotted_length _ _ _ _ (octet 0) (octet 1) (octet 2) (octet 3)

pub peer_length : (ip : Ip) (port : ℕ) → port < 2 ^ 16 → length (address_and_port ip port) ≤ 47
peer_length (V4 number) port small =
    let digits = length-decimal-le 5 port (omega arith) (omega arith) (omega arith) in
    let whole = length-append (v4_text number) (58 ∷ decimal port) in
    omega (arith, v4_length number, digits, whole)
peer_length (V6 number) port small =
    let digits = length-decimal-le 5 port (omega arith) (omega arith) (omega arith) in
    let whole = length-append (v6_text number) (93 ∷ 58 ∷ decimal port) in
    omega (arith, length-v6_text number, digits, whole)

pub peer_some : (ip : Ip) (port : ℕ) → 0 < length (address_and_port ip port)
peer_some (V4 number) port = omega (arith, length-append (v4_text number) (58 ∷ decimal port))
peer_some (V6 number) port = omega arith
