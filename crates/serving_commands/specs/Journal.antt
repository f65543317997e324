-- A line of the journal: the counts of an answer that weren't in the one before.
use Rattle.std.specs.{Prelude.{ℕ, Bool, nat_eq, ◌||◌, List, [], ◌∷◌, ◌++◌, drop, flat_map, codes, decimal, if◌then◌else◌}, List.{list_any, starts_with}, Str.{bytes_eq, Lines.{lines}}}
use Rattle.script_lines.specs.Lines.{is_filled}

-- the line counts turns or questions, or it ends the answer: it counts no event
abbrev pub counts_no_event : List ℕ → Bool
counts_no_event line =
    starts_with nat_eq line (codes "turns ") || starts_with nat_eq line (codes "published ")
    || starts_with nat_eq line (codes "controls ") || starts_with nat_eq line (codes "= moved ")
    || starts_with nat_eq line (codes "= drawn ") || starts_with nat_eq line (codes "= quiet ")
    || starts_with nat_eq line (codes ". ")

-- the line counts an outcome which the report counts too
abbrev pub is_in_the_report : List ℕ → Bool
is_in_the_report line =
    starts_with nat_eq line (codes "= updated ") || starts_with nat_eq line (codes "= torndown ")
    || starts_with nat_eq line (codes "= delivered ")

-- a count without the mark of an outcome
abbrev pub unmarked : List ℕ → List ℕ
unmarked line = if starts_with nat_eq line (codes "= ") then drop 2 line else line

-- what the journal has of a line, where the answer before had these lines
abbrev pub told_of : List (List ℕ) → List ℕ → List ℕ
told_of before line =
    if counts_no_event line || is_in_the_report line || list_any (bytes_eq line) before then [] else 32 ∷ unmarked line

-- the counts that have changed, a space before each
abbrev pub changes : List ℕ → List ℕ → List ℕ
changes before answer = flat_map (told_of (lines before)) (lines answer)

-- `amt: SECONDS s: COUNT ..`, or nothing where no count has changed
abbrev pub journal_line : ℕ → List ℕ → List ℕ → List ℕ
journal_line seconds before answer =
    if is_filled (changes before answer)
    then codes "amt: " ++ (decimal seconds ++ (codes " s:" ++ (changes before answer ++ (10 ∷ []))))
    else []
