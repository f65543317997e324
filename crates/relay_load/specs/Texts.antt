-- What is written of a run.
use Rattle.std.specs.Prelude.{ℕ, List, [], ◌∷◌, ◌++◌, codes, decimal}
use Rattle.relay_load.specs.declared.summary.LoadSummary.{LoadSummary}

-- a word and a number on a line
abbrev pub count_line : List ℕ → ℕ → List ℕ
count_line word count = word ++ (codes " " ++ (decimal count ++ 10 ∷ []))

-- `events N`, `updated N`, `copied N` and `live N`
unfoldable pub load_text : LoadSummary → List ℕ
load_text summary =
    count_line (codes "events") summary.events
    ++ (count_line (codes "updated") summary.updated
    ++ (count_line (codes "copied") summary.copied
    ++ count_line (codes "live") summary.live))
