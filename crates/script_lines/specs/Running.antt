-- Runs over the items of a script, and their text.
use Rattle.std.specs.{Prelude.{ℕ, ◌+◌, List, [], ◌∷◌, ◌++◌, length}, List.{AllByRecursion}}
use Rattle.script_lines.specs.Texts.{closing_text}

-- the items that follow those before, numbered from 1, by the text of one after those before it
abbrev pub items_text : {I : Type 0} → (List I → ℕ → I → List ℕ) → List I → List I → List ℕ
items_text text_of before [] = []
items_text text_of before (item ∷ rest) =
    text_of before (length before + 1) item ++ items_text text_of (before ++ item ∷ []) rest

-- all items, and the closing line
abbrev pub script_text : {I : Type 0} → (List I → ℕ → I → List ℕ) → List I → List ℕ
script_text text_of items = items_text text_of [] items ++ closing_text (length items)

-- a fact of start and items holds of all those by which the value may have come to be
abbrev pub After : {X S I : Type 0} → (X → S → List I → Type 0) → X → (S → List I → Type 0) → Type 0
After {S = S} {I = I} IsAfter value Fact = (start : S) (before : List I) → IsAfter value start before → Fact start before

-- some items led to the value from a start, and from there the item may come next
pub record MayTake {X S I : Type 0} (IsAfter : X → S → List I → Type 0) (MayCome : S → I → Type 0) (value : X) (item : I) : Type 0 where
  pub start : S
  pub before : List I
  pub stands : IsAfter value start before
  pub may : MayCome start item

-- the value is at a start from which all items may come
pub record MayRun {X S I : Type 0} (IsAfter : X → S → List I → Type 0) (MayCome : S → I → Type 0) (value : X) (items : List I) : Type 0 where
  pub start : S
  pub stands : IsAfter value start []
  pub may : AllByRecursion (MayCome start) items
