-- Lines, their fields, and which lines say something.
use Rattle.std.specs.{Prelude.{ℕ, ◌≤◌, ◌==◌, Bool, true, false, not, List, [], ◌∷◌, filter, length, slice_index, All}, Int.{IsInRange}, List.{slice_split}}

-- there is some octet
abbrev pub is_filled : List ℕ → Bool
is_filled [] = false
is_filled (octet ∷ rest) = true

-- what stands between spaces
abbrev pub fields : List ℕ → List (List ℕ)
fields line = filter is_filled (slice_split (λ octet. octet == 32) line)

-- a line says nothing where it has no field, or its first one begins with `#`
abbrev pub says_nothing : List (List ℕ) → Bool
says_nothing [] = true
says_nothing (first ∷ rest) = slice_index first 0 == 35

-- the lines that say something
abbrev pub lines_that_say : List (List ℕ) → List (List ℕ)
lines_that_say ls = filter (λ line. not (says_nothing (fields line))) ls

-- what ends a line isn't counted in its 140,000 octets
abbrev pub IsShort : List ℕ → Type 0
IsShort line = length line ≤ 140000

-- each octet is printable ASCII
abbrev pub IsPlain : List ℕ → Type 0
IsPlain line = All (λ octet. IsInRange 32 126 octet) line
