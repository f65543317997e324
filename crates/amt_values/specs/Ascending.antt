-- Lists that ascend by an order, with each item once: sets with one form.
use Rattle.std.specs.{Prelude.{Bool, not, List, [], ◌∷◌, ◌++◌}, List.{filter, list_any, Sorted.{IsStrictlySortedBy}}, Ordering.{eq_by_cmp, match_ordering}, declared.cmp.Ordering.{Ordering}}

module _ {K : Type 0} (order : K → K → Ordering) where
  -- x is one of the items
  abbrev pub has : List K → K → Bool
  has xs x = list_any (eq_by_cmp order x) xs

  -- each item is below those after it
  abbrev pub IsAscending : List K → Type 0
  IsAscending xs = IsStrictlySortedBy order xs

  -- ascending items with x among them
  abbrev pub placed : K → List K → List K
  placed x [] = x ∷ []
  placed x (y ∷ ys) = match_ordering (order x y) (x ∷ y ∷ ys) (y ∷ ys) (y ∷ placed x ys)

  -- the different items of a list, ascending
  abbrev pub ascending : List K → List K
  ascending [] = []
  ascending (x ∷ xs) = placed x (ascending xs)

  -- the items of either list, ascending
  abbrev pub union : List K → List K → List K
  union xs ys = ascending (xs ++ ys)

  -- the items of xs that ys lacks
  abbrev pub difference : List K → List K → List K
  difference xs ys = filter (λ x. not (has ys x)) xs

  -- the items of xs that ys has too
  abbrev pub intersection : List K → List K → List K
  intersection xs ys = filter (λ x. has ys x) xs
