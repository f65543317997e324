-- The hexadecimal digits of octets, piece by piece.
use Rattle.std.proofs.Common.{◌≡◌, ℕ, ◌/◌, ◌%◌, List, [], ◌∷◌, ◌++◌, slice_index, refl, ap, sym, ◌∙◌, append_assoc}
use Rattle.hex.specs.Hex.{encode_lower, encode_with, lower_digits}

digits_of_both : (digits octets more : List ℕ) → encode_with digits (octets ++ more) ≡ encode_with digits octets ++ encode_with digits more
unfolding encode_with
digits_of_both digits [] more = refl
digits_of_both digits (octet ∷ rest) more =
    ap (λ (text : List ℕ). slice_index digits (octet / 16) ∷ slice_index digits (octet % 16) ∷ text) (digits_of_both digits rest more)

-- the digits of a piece were put before those of the rest
pub one_piece_more : (before after start octets piece rest : List ℕ) → before ++ encode_lower octets ≡ start → octets ≡ piece ++ rest
    → after ≡ before ++ encode_lower piece → after ++ encode_lower rest ≡ start
one_piece_more before after start octets piece rest so_far parts is =
    ap (λ (text : List ℕ). text ++ encode_lower rest) is
    ∙ (append_assoc before (encode_lower piece) (encode_lower rest)
    ∙ (ap (λ (text : List ℕ). before ++ text) (sym (ap (λ (xs : List ℕ). encode_lower xs) parts ∙ digits_of_both lower_digits piece rest)) ∙ so_far))
