-- The datagrams that were printed so far.
use Rattle.std.{proofs.Common.{◌≡◌, ℕ, List, [], ◌∷◌, ◌++◌, length, flat_map, refl, sym, ap, ◌∙◌, append-nil, arith}, specs.List.{AllByRecursion, zip}}
use Rattle.amt_dump.specs.{Lines.{IsDatagram}, Texts.{datagram_lines}}

-- datagrams and the numbers of their lines, side by side
abbrev pub numbered_text : List ℕ → List (List ℕ) → List ℕ
numbered_text numbers datagrams = flat_map (λ one. datagram_lines one.0 one.1) (zip numbers datagrams)

-- with the text of those that are left it is the text of all of them
pub record IsPrinting (start text numbers : List ℕ) (datagrams : List (List ℕ)) (next : List ℕ) (left : List (List ℕ)) : Type 0 where
  pub whole : text ++ numbered_text next left ≡ start ++ numbered_text numbers datagrams
  pub sized : AllByRecursion IsDatagram left

pub printing_start : (start numbers : List ℕ) (datagrams : List (List ℕ)) → AllByRecursion IsDatagram datagrams
    → IsPrinting start start numbers datagrams numbers datagrams
printing_start start numbers datagrams sized = record { whole = refl; sized = sized }

text_of_none : (numbers : List ℕ) → numbered_text numbers [] ≡ []
text_of_none [] = refl
text_of_none (number ∷ numbers) = refl

none_of : (left : List (List ℕ)) → length left ≡ 0 → left ≡ []
none_of [] none = refl
none_of (datagram ∷ rest) none = absurd (omega (arith, none))

-- where no datagram is left
pub printed_all : (start text numbers : List ℕ) (datagrams : List (List ℕ)) (next : List ℕ) (left : List (List ℕ))
    → IsPrinting start text numbers datagrams next left → length left ≡ 0 → text ≡ start ++ numbered_text numbers datagrams
printed_all start text numbers datagrams next left printing none =
    sym (append-nil text)
    ∙ (ap (λ (t : List ℕ). text ++ t) (sym (text_of_none next))
    ∙ (ap (λ (ds : List (List ℕ)). text ++ numbered_text next ds) (sym (none_of left none)) ∙ printing.whole))
