-- How often each of some words was said.
use Rattle.std.specs.{Prelude.{◌≡◌, ◌⊎◌, ℕ, ◌<◌, ◌^◌, ◌==◌, Bool, true, not, ◌&&◌, IsTrue, List, [], ◌∷◌, ◌++◌, length, map, codes, decimal, if◌then◌else◌}, List.{count_by, list_any}, Str.{bytes_eq}}
use Rattle.script_lines.specs.Texts.{BeginsWith}

-- a text is the word alone, or goes on with a space after it
abbrev pub BeginsWithWord : List ℕ → List ℕ → Type 0
BeginsWithWord text word = (text ≡ word) ⊎ BeginsWith text (word ++ codes " ")

-- how often each word was said
abbrev pub numbers_of : List (List ℕ) → List (List ℕ) → List ℕ
numbers_of words said = map (λ word. count_by (bytes_eq word) said) words

-- no word is also at a later place
abbrev pub are_apart : List (List ℕ) → Bool
are_apart [] = true
are_apart (word ∷ words) = not (list_any (bytes_eq word) words) && are_apart words

-- no two places have the same word
abbrev pub AreApart : List (List ℕ) → Type 0
AreApart words = IsTrue (are_apart words)

-- these are the numbers of fewer words than can be counted
abbrev pub IsTallyOfFew : List (List ℕ) → List ℕ → Type 0
IsTallyOfFew words numbers = (said : List (List ℕ)) × (numbers ≡ numbers_of words said) × (length said < 2 ^ 62)

-- one word more is counted, whatever was so far
abbrev pub HasCounted : (words : List (List ℕ)) (word : List ℕ) (numbers numbers' : List ℕ) → Type 0
HasCounted words word numbers numbers' =
    (said : List (List ℕ)) → numbers ≡ numbers_of words said → numbers' ≡ numbers_of words (said ++ word ∷ [])

-- `WORD N`
abbrev pub number_line : List ℕ → ℕ → List ℕ
number_line word number = word ++ (codes " " ++ (decimal number ++ (10 ∷ [])))

-- `= WORD N`, of a word that was said
abbrev pub tally_line : List ℕ → ℕ → List ℕ
tally_line word number =
    if number == 0 then [] else codes "= " ++ number_line word number

-- the lines of the words that were said, in order
abbrev pub tally_text : List (List ℕ) → List ℕ → List ℕ
tally_text [] numbers = []
tally_text (word ∷ words) [] = []
tally_text (word ∷ words) (number ∷ numbers) = tally_line word number ++ tally_text words numbers
