-- Lists that begin with others.
use Rattle.std.specs.{Prelude.{◌≡◌, List, length, take}, List.{All, AllByRecursion}}

-- the second list is a prefix of the first
abbrev pub BeginsWith : {X : Type 0} → List X → List X → Type 0
BeginsWith xs ys = take (length ys) xs ≡ ys

-- each of these lists is a prefix of it
abbrev pub BeginsWithEach : {X : Type 0} → List X → List (List X) → Type 0
BeginsWithEach xs lists = All (BeginsWith xs) lists

-- each item is this one
abbrev pub AreAll : {X : Type 0} → X → List X → Type 0
AreAll x xs = AllByRecursion (λ y. x ≡ y) xs
