-- Words of printed lines, and the fields that they are read back as.
use Rattle.std.{proofs.{Common.{◌≡◌, ◌≢◌, ℕ, zero, suc, ◌/◌, ◌%◌, ◌-◌, ◌<◌, ◌≤◌, ◌==◌, false, List, [], ◌∷◌, ◌++◌, length, slice_index, Ok, codes, inl, inr, refl, ap, ◌∙◌, ne_eqb, arith, rules}, lemmas.List.Elements.{All-nil, All-cons, All-append, All-weaker, All-get_or, All-from_recursion}}, specs.{Int.{IsInRange}, List.{AllByRecursion}, Str.Lines.{lines, strip_carriage_return}}}
use Rattle.hex.{specs.Hex.{IsBytes, encode_lower, encode_with, lower_digits, decode_of}, proofs.HexLemmas.{decode_of-encode_lower, length-encode_with}}
use Rattle.amt_values.specs.{Octets.{AreOctets}, Text.{peer_text, IsPeerText}, declared.peer.Peer.{Peer}}
use Rattle.script_lines.{specs.{Form.{IsHexText}, Lines.{fields, IsPlain}, Texts.{hex_text}}, proofs.{Glyphs.{IsGlyph, AreGlyphs}, Peers.{glyphs_of_peer, peer_some}, Splitting.{lines-ended, fields-ended, fields-last}}}

glyphs_of_table : AreGlyphs lower_digits
glyphs_of_table = All-from_recursion IsGlyph lower_digits (search rules)

glyph_of_table : (d : ℕ) → d < 16 → IsGlyph (slice_index lower_digits d)
glyph_of_table d small = All-get_or IsGlyph lower_digits d 0 small glyphs_of_table

glyphs_of_hex : (bytes : List ℕ) → IsBytes bytes → AreGlyphs (encode_lower bytes)
unfolding encode_with
glyphs_of_hex [] small = All-nil IsGlyph
glyphs_of_hex (b ∷ rest) small =
    let octet : b < 256 = small zero in
    let low = slice_index lower_digits (b % 16) in
    All-cons IsGlyph (slice_index lower_digits (b / 16)) (low ∷ encode_lower rest) (glyph_of_table (b / 16) (omega (arith, octet)))
    (All-cons IsGlyph low (encode_lower rest) (glyph_of_table (b % 16) (omega arith)) (glyphs_of_hex rest (λ k. small (suc k))))

text_of_glyph : (octet : ℕ) → IsGlyph octet → IsInRange 32 126 octet
text_of_glyph octet glyph = (omega (arith, glyph.0), glyph.1)

no_space : (octet : ℕ) → IsGlyph octet → octet ≢ 32
no_space octet glyph = λ same. omega (arith, glyph.0)

no_line_feed : (octet : ℕ) → IsInRange 32 126 octet → octet ≢ 10
no_line_feed octet plain = λ same. omega (arith, plain.0)

pub plain_glyphs : (text : List ℕ) → AreGlyphs text → IsPlain text
plain_glyphs text glyphs = All-weaker IsGlyph (λ octet. IsInRange 32 126 octet) text_of_glyph text glyphs

no_return : (line : List ℕ) → IsPlain line → slice_index line (length line - 1) ≢ 13
no_return [] plain = λ same. omega (arith, same)
no_return (x ∷ xs) plain = λ same.
    let last = All-get_or (λ octet. IsInRange 32 126 octet) (x ∷ xs) (length (x ∷ xs) - 1) 0 (omega arith) plain in
    omega (arith, last.0, same)

-- a plain line and its line feed are that line
pub lines-plain : (line : List ℕ) → IsPlain line → lines (line ++ 10 ∷ []) ≡ line ∷ []
lines-plain line plain =
    let kept : (slice_index line (length line - 1) == 13) ≡ false = ne_eqb (slice_index line (length line - 1)) 13 (no_return line plain) in
    let whole : strip_carriage_return line ≡ line = rw kept refl in
    lines-ended line [] (All-weaker (λ octet. IsInRange 32 126 octet) (λ octet. octet ≢ 10) no_line_feed line plain)
    ∙ ap (λ (l : List ℕ). l ∷ []) whole

-- a word of glyphs and a space begin a line
pub fields-word : (word rest : List ℕ) → 0 < length word → AreGlyphs word → fields (word ++ 32 ∷ rest) ≡ word ∷ fields rest
fields-word [] rest some glyphs = absurd (omega arith)
fields-word (x ∷ xs) rest some glyphs =
    fields-ended (x ∷ xs) rest (no_space x (All-get_or IsGlyph (x ∷ xs) 0 0 (omega arith) glyphs))
    (All-weaker IsGlyph (λ octet. octet ≢ 32) no_space (x ∷ xs) glyphs)

pub fields-word-last : (word : List ℕ) → 0 < length word → AreGlyphs word → fields word ≡ word ∷ []
fields-word-last word some glyphs = fields-last word some (All-weaker IsGlyph (λ octet. octet ≢ 32) no_space word glyphs)

-- two words
pub fields-two : (word last : List ℕ) → 0 < length word → AreGlyphs word → 0 < length last → AreGlyphs last → fields (word ++ 32 ∷ last) ≡ word ∷ last ∷ []
fields-two word last some glyphs some_last glyphs_last =
    fields-word word last some glyphs ∙ ap (λ (rest : List (List ℕ)). word ∷ rest) (fields-word-last last some_last glyphs_last)

pub plain_two : (word last : List ℕ) → AreGlyphs word → IsPlain last → IsPlain (word ++ 32 ∷ last)
plain_two word last glyphs plain =
    All-append (λ octet. IsInRange 32 126 octet) word (32 ∷ last) (plain_glyphs word glyphs)
    (All-cons (λ octet. IsInRange 32 126 octet) 32 last (omega arith, omega arith) plain)

-- a text that names something, and is a word of a line
pub record IsWordOf (IsText : List ℕ → Type 0) (text : List ℕ) : Type 0 where
  pub names : IsText text
  pub glyphs : AreGlyphs text
  pub some : 0 < length text

pub glyphs_of_literal : (text : List ℕ) → AllByRecursion IsGlyph text → AreGlyphs text
glyphs_of_literal text each = All-from_recursion IsGlyph text each

pub secret_text : (octets : List ℕ) → AreOctets octets → length octets ≡ 32 → (length (hex_text octets) ≡ 64) × (decode_of (hex_text octets) ≡ Ok octets) × AreGlyphs (hex_text octets)
secret_text [] small whole = absurd (omega (arith, whole))
secret_text (b ∷ rest) small whole =
    let twice = length-encode_with lower_digits (b ∷ rest) in
    (omega (arith, twice, whole), decode_of-encode_lower (b ∷ rest) small, glyphs_of_hex (b ∷ rest) small)

pub hex_word : (bytes : List ℕ) → AreOctets bytes → length bytes ≤ 65535 → IsWordOf (IsHexText bytes) (hex_text bytes)
hex_word [] octets short = record { names = inl (refl, refl); glyphs = glyphs_of_literal (codes "-") (search rules); some = omega arith }
hex_word (b ∷ rest) octets short =
    let twice = length-encode_with lower_digits (b ∷ rest) in record {
      names = inr (omega (arith, twice, short), decode_of-encode_lower (b ∷ rest) octets);
      glyphs = glyphs_of_hex (b ∷ rest) octets;
      some = omega (arith, twice);
    }

pub peer_word : (from : Peer) → IsPeerText from (peer_text from) → IsWordOf (IsPeerText from) (peer_text from)
peer_word from names = record { names = names; glyphs = glyphs_of_peer from.ip from.port names.port; some = peer_some from.ip from.port }

pub hex_length : (bytes : List ℕ) → length bytes ≤ 65535 → length (hex_text bytes) ≤ 131070
hex_length [] short = omega arith
hex_length (b ∷ rest) short = let twice = length-encode_with lower_digits (b ∷ rest) in omega (arith, twice, short)
