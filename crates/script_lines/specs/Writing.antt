-- How much of a text was written.
use Rattle.std.specs.{Prelude.{◌≡◌, ℕ, List, ◌++◌, Option}, Io.KnownBytes.{Appends}}

-- what was written goes on to the text where this rest follows it
pub record WritesUpTo (old new : Option (List ℕ)) (text rest : List ℕ) : Type 0 where
  pub prefix : List ℕ
  pub parts : text ≡ prefix ++ rest
  pub written : Appends old new prefix

-- a prefix of the text was written
abbrev pub WritesPrefix : Option (List ℕ) → Option (List ℕ) → List ℕ → Type 0
WritesPrefix old new text = (rest : List ℕ) × WritesUpTo old new text rest
