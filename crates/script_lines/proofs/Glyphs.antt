-- What the words of a printed line are made of.
use Rattle.std.{proofs.{Common.{ℕ, ◌^◌, ◌<◌, List, All, decimal, arith}, lemmas.{Fmt.{decimal_is_IsNumeral}, List.Elements.{All-from_get_or}, Str.Parse.{digit_at}}}, specs.Int.{IsInRange}}

-- printable and no space
abbrev pub IsGlyph : ℕ → Type 0
IsGlyph octet = IsInRange 33 126 octet

abbrev pub AreGlyphs : List ℕ → Type 0
AreGlyphs text = All IsGlyph text

pub glyphs_of_digits : (number : ℕ) → number < 2 ^ 64 → AreGlyphs (decimal number)
glyphs_of_digits number small =
    All-from_get_or IsGlyph (decimal number) 0 λ i within.
    let digit = digit_at (decimal number) i (decimal_is_IsNumeral number small).0.1 within in
    (omega (arith, digit.0), omega (arith, digit.1))
